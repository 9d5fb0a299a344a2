mod WordsAndInput
mod OneInput
mod Statuses
mod Causes
mod Written
mod Answering
mod DueRuns
