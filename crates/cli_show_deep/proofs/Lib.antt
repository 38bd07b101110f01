mod DeepFindings
mod NamesOfObjects
mod NumberFacts
mod ThingsJoined
