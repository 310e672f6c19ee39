-- Replays: what is done record by record.
mod Replaying
