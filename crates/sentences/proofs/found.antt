-- Laws of a part of a file that is shown as far as the file has it.
mod Clipped
