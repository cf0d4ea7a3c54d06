-- From the front of the input to all of it.
mod AllInput
