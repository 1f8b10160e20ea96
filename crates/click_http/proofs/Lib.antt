pub mod Leadings
