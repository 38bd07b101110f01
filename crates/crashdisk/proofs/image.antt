-- What a crash may leave (images), and the choices that name and number each image.
pub mod DigitsOfChoice
pub mod NumberOfChoice
pub mod OriginOfImages
pub mod ImagesOfCalls
pub mod ImageNamedByChoice
pub mod TornSectorsOfChoice
pub mod BytesNamedByChoice
pub mod ChoiceForEachImage
pub mod ImagesOfEndedFile
