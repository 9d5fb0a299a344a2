mod AcceptedWords
mod FirstBadWord
mod GivenNumbers
mod ReadingLemmas
mod WordParts
