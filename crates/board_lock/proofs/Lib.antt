mod GatherLemmas
mod StoryLemmas
mod AnswerLemmas
mod Steps
mod Turns
mod Ends
mod BookLemmas
mod PassLemmas
