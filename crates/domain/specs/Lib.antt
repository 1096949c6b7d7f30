pub mod Domains
