-- The fields of a file by name and number. Document 01, "Lines"; document 02, W-205. Assumes nothing.
use Rattle.std.specs.Prelude.{ℕ}

-- the fields of the first line, of an account file's line, of a group's, of an item's; the four parts and the name of a text; the lines that
-- close; and a line as a whole
pub data Name : Type 0 where
  creation_day firm_name client_number interval_start interval_end rest_of_line : Name
  file_kind file_number payer_bank : Name
  group_payer group_total group_day : Name
  item_payer payee amount variable_symbol bank_field specific_symbol message : Name
  first_part second_part third_part fourth_part payee_name : Name
  group_closing file_closing : Name
  whole_line : Name

-- their numbers: tens for the kind of line
unfoldable pub field_number : Name → ℕ
field_number creation_day = 1
field_number firm_name = 2
field_number client_number = 3
field_number interval_start = 4
field_number interval_end = 5
field_number rest_of_line = 6
field_number file_kind = 10
field_number file_number = 11
field_number payer_bank = 12
field_number group_payer = 20
field_number group_total = 21
field_number group_day = 22
field_number item_payer = 30
field_number payee = 31
field_number amount = 32
field_number variable_symbol = 33
field_number bank_field = 34
field_number specific_symbol = 35
field_number message = 36
field_number first_part = 37
field_number second_part = 38
field_number third_part = 39
field_number fourth_part = 40
field_number payee_name = 41
field_number group_closing = 50
field_number file_closing = 51
field_number whole_line = 0
