-- Laws of how many digits a field has, by an answer of the sheet.
mod Digits
