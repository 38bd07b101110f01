-- The walk over pages: agenda, items, marks, freelist trunks, what a visitor is told.
pub mod MarkedPages
pub mod AgendaOfWalk
pub mod FreelistTrunks
pub mod FollowedItem
pub mod RefusedItems
pub mod StepsOfWalk
pub mod VisitedPlaces
pub mod FaultsFound
pub mod FoundPlaces
pub mod ChartedPlaces
pub mod FollowedPlaces
pub mod SurveyedPages
