mod TotalLemmas
mod TimesLemmas
mod LineLemmas
mod MemberLemmas
mod Steps
mod Turns
mod Ends
pub mod Facts
