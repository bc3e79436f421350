-- What the proof of `put_entries` uses.
mod Entries
