-- Pages of b-trees: entered, judged, their keys and places.
pub mod KeysAndPlaces
pub mod FaultsOfTreePage
pub mod EnteredPage
