-- Document 01, "Who calls it": the listing.
pub mod Listing
