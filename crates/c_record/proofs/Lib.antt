pub mod Examples
pub mod WordLaws
pub mod RoundTrip
