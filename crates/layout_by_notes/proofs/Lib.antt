-- That an accepted file lies in the lent tables as noted.
pub mod Goes
pub mod Keys
pub mod Ahead
pub mod Counts
pub mod Lists
pub mod Lying
pub mod Opening
pub mod Onward
pub mod Tables
