-- Positions in a text, by lines and UTF-16 units (Language Server Protocol 3.17, "Text Documents").
use Rattle.std.specs.Prelude.{ℕ, suc, ◌+◌, ◌≤◌, ◌≡◌, Bool, true, false, not, ◌&&◌, ◌||◌, nat_eq, nat_le, nat_lt, if◌then◌else◌, List, [], ◌∷◌, drop, length, take, ⊤}
use Rattle.bl_lsp_text.specs.declared.position.Position.{Position}
use Rattle.bl_lsp_text.specs.declared.stand.Stand.{Stand}

-- how many UTF-16 units the character has that begins with this byte of UTF-8: none for a byte within a character
abbrev pub units_at : ℕ → ℕ
units_at byte = if nat_lt byte 128 then 1 else if nat_lt byte 192 then 0 else if nat_lt byte 240 then 1 else 2

-- before the first byte of a text
abbrev pub at_start : Stand
at_start = record { line = 0; unit = 0; returned = false }

-- at the start of the next line
abbrev pub next_line : Stand → Bool → Stand
next_line stand returned = record { line = stand.line + 1; unit = 0; returned = returned }

-- behind one more byte: a line ends with a line feed, with a carriage return, or with both in this order
abbrev pub passed : Stand → ℕ → Stand
passed stand byte =
    if nat_eq byte 10 then (if stand.returned then record { line = stand.line; unit = stand.unit; returned = false } else next_line stand false)
    else if nat_eq byte 13 then next_line stand true
    else record { line = stand.line; unit = stand.unit + units_at byte; returned = false }

-- behind more bytes
abbrev pub passed_all : Stand → List ℕ → Stand
passed_all stand [] = stand
passed_all stand (byte ∷ bytes) = passed_all (passed stand byte) bytes

-- the position at which a reader stands
abbrev pub position_by : Stand → Position
position_by stand = record { line = stand.line; character = stand.unit }

-- the position of the byte at an offset; behind the text, that of the text's end
abbrev pub position_at : List ℕ → ℕ → Position
position_at text offset = position_by (passed_all at_start (take offset text))

-- ---- back from a position

-- the order of positions in a text
abbrev pub precedes : Position → Position → Bool
precedes one other = nat_lt one.line other.line || (nat_eq one.line other.line && nat_lt one.character other.character)

-- whether a byte is within a character, or the line feed of a carriage return
abbrev pub goes_on : Stand → ℕ → Bool
goes_on stand byte = (nat_le 128 byte && nat_lt byte 192) || (nat_eq byte 10 && stand.returned)

-- whether a byte ends a line
abbrev pub ends_line : ℕ → Bool
ends_line byte = nat_eq byte 10 || nat_eq byte 13

-- whether a reader that looks for a position stops before this byte: it has come there, or to the end of that line
abbrev pub stops : Stand → Position → ℕ → Bool
stops stand target byte = not (goes_on stand byte) && (not (precedes (position_by stand) target) || (nat_eq stand.line target.line && ends_line byte))

-- how many bytes a reader passes before it stops
abbrev pub offset_from : Stand → Position → List ℕ → ℕ
offset_from stand target [] = 0
offset_from stand target (byte ∷ bytes) = if stops stand target byte then 0 else suc (offset_from (passed stand byte) target bytes)

-- the offset of the byte at a position
abbrev pub offset_of : List ℕ → Position → ℕ
offset_of text target = offset_from at_start target text

-- ---- where characters begin

-- a character begins with the first of these bytes, or there is none
abbrev pub BeginsBehind : Stand → List ℕ → Type 0
BeginsBehind stand [] = ⊤
BeginsBehind stand (byte ∷ bytes) = goes_on stand byte ≡ false

-- a character of the text begins at the offset, or the text ends there
pub record CharacterBegins (text : List ℕ) (offset : ℕ) : Type 0 where
  pub within : offset ≤ length text
  pub begins : BeginsBehind (passed_all at_start (take offset text)) (drop offset text)
