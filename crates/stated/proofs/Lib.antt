pub mod ReadGiven
