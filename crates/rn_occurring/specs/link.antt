pub mod OccurringParts
