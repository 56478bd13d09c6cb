-- A stream of bytes, cut into the contents of messages by their headers (Language Server Protocol 3.17, "Base Protocol").
use Rattle.std.specs.Prelude.{ℕ, ◌+◌, ◌-◌, ◌*◌, Bool, true, false, ◌&&◌, ◌||◌, nat_eq, nat_le, nat_lt, if◌then◌else◌, List, [], ◌∷◌, ◌++◌, length, drop, codes, Option, Some, None}
use Rattle.std.specs.List.{starts_with}
use Rattle.bl_lsp.specs.declared.framer.Digits.{Digits}
use Rattle.bl_lsp.specs.declared.framer.Digits.TheVariants as digits
use Rattle.bl_lsp.specs.declared.framer.Field.{Field}
use Rattle.bl_lsp.specs.declared.framer.Field.TheVariants as field
use Rattle.bl_lsp.specs.declared.framer.Taken.{Taken}
use Rattle.bl_lsp.specs.declared.framer.Taken.TheVariants as taken

-- where a reader of a stream stands: within a content or a header, with the length told, and the bytes so far of the content or the line
pub record Framing : Type 0 where
  pub inside : Bool
  pub told : Option ℕ
  pub got : List ℕ

-- before a header
abbrev pub at_head : Framing
at_head = record { inside = false; told = None; got = [] }

-- the most bytes of a line of a header
abbrev pub longest_line : ℕ
longest_line = 1024

-- the most bytes of a content: 64 MiB
abbrev pub most_bytes : ℕ
most_bytes = 67108864

-- ---- a line of a header

-- the small letter of a capital one, and else the byte
abbrev pub lower : ℕ → ℕ
lower byte = if nat_le 65 byte && nat_le byte 90 then byte + 32 else byte

-- whether a byte is a decimal digit
abbrev pub is_digit : ℕ → Bool
is_digit byte = nat_le 48 byte && nat_le byte 57

-- a number with one digit more, if it isn't above the limit
abbrev pub number_with : ℕ → ℕ → Digits
number_with n byte =
    if is_digit byte && (nat_le n most_bytes && nat_le (n * 10 + (byte - 48)) most_bytes) then digits.Number (n * 10 + (byte - 48)) else digits.Wrong

-- one byte more of a length: blanks, and then digits
abbrev pub read_on : Digits → ℕ → Digits
read_on digits.Blank byte =
    if nat_eq byte 32 || nat_eq byte 9 then digits.Blank else if is_digit byte then digits.Number (byte - 48) else digits.Wrong
read_on (digits.Number n) byte = number_with n byte
read_on digits.Wrong byte = digits.Wrong

-- the bytes of a length
abbrev pub read_all : Digits → List ℕ → Digits
read_all so_far [] = so_far
read_all so_far (byte ∷ bytes) = read_all (read_on so_far byte) bytes

-- the name of the field that tells a content's length, 15 bytes
abbrev pub length_field : List ℕ
length_field = codes "content-length:"

-- what is told by the bytes behind that name
abbrev pub told_by : Digits → Field
told_by digits.Blank = field.Wrong
told_by (digits.Number n) = field.Length n
told_by digits.Wrong = field.Wrong

-- what a line in small letters says of a content's length
abbrev pub field_of : List ℕ → Field
field_of line = if starts_with nat_eq line length_field then told_by (read_all digits.Blank (drop 15 line)) else field.Other

-- ---- the next byte

-- what is said where a content is expected of which so many bytes are there
abbrev pub says_content : Option ℕ → ℕ → Taken
says_content None size = taken.Broken
says_content (Some n) size = if nat_lt size n then taken.More else taken.Whole

-- what a line says that ends, and is not empty
abbrev pub says_field : Field → Taken
says_field (field.Length n) = taken.More
says_field field.Wrong = taken.Broken
says_field field.Other = taken.More

-- where a reader stands behind such a line
abbrev pub after_field : Framing → Field → Framing
after_field framing (field.Length n) = record framing { told = Some n }
after_field framing field.Wrong = framing
after_field framing field.Other = framing

-- whether bytes are there
abbrev pub is_empty : List ℕ → Bool
is_empty [] = true
is_empty (byte ∷ bytes) = false

-- what a line feed completes: an empty line ends the header
abbrev pub says_line : Framing → Taken
says_line framing = if is_empty framing.got then says_content framing.told 0 else says_field (field_of framing.got)

-- where a reader stands behind a line feed of a header
abbrev pub after_line : Framing → Framing
after_line framing = if is_empty framing.got then record framing { inside = true } else after_field (record framing { got = [] }) (field_of framing.got)

-- what another byte of a line completes: the line may be too long with it
abbrev pub keeps_line : Framing → Taken
keeps_line framing = if nat_lt (length framing.got) longest_line then taken.More else taken.Broken

-- what a byte of a header completes; carriage returns, 13, are passed over
abbrev pub says_head : Framing → ℕ → Taken
says_head framing byte = if nat_eq byte 10 then says_line framing else if nat_eq byte 13 then taken.More else keeps_line framing

-- where a reader stands behind a byte of a header
abbrev pub after_head : Framing → ℕ → Framing
after_head framing byte =
    if nat_eq byte 10 then after_line framing
    else if nat_eq byte 13 then framing
    else record framing { got = framing.got ++ lower byte ∷ [] }

-- where a reader stands behind a byte of a content
abbrev pub after_content : Framing → ℕ → Framing
after_content framing byte = record framing { got = framing.got ++ byte ∷ [] }

-- what a byte completes
abbrev pub says : Framing → ℕ → Taken
says framing byte = if framing.inside then says_content framing.told (length framing.got + 1) else says_head framing byte

-- where a reader stands behind a byte; behind a whole content it is asked for that, and then stands before a header
abbrev pub framing_after : Framing → ℕ → Framing
framing_after framing byte = if framing.inside then after_content framing byte else after_head framing byte
