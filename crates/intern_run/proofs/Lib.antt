mod Lines
mod Names
mod Reply
mod Sent
mod Written
