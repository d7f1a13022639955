pub mod Facts
mod ElementsStay
mod EditedNets
mod Renaming
mod KeptPlaces
mod KeptEntries
mod KeptBooks
mod KeptAnswers
