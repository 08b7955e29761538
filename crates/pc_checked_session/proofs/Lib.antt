mod Determined
mod OneTypeAt
mod Published
mod ToldItems
