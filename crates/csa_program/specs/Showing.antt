-- What a terminal is shown of a text.
use Rattle.std.specs.Prelude.{◌≡◌, ◌<◌, ◌+◌, ◌++◌, ◌/◌, ◌%◌, ◌&&◌, ◌||◌, ◌==◌, nat_lt, nat_le, if◌then◌else◌, Bool, true, false, ℕ, List, [], ◌∷◌}
use Rattle.std.specs.Prelude.{Option, None, get_or}

-- a control character of one byte, other than a tab and a line feed
abbrev pub is_low : ℕ → Bool
is_low byte = nat_lt byte 9 || ((nat_lt 10 byte && nat_lt byte 32) || byte == 127)

-- the second byte of a control character of two bytes, which is also its code
abbrev pub is_upper : ℕ → Bool
is_upper byte = nat_le 128 byte && nat_lt byte 160

abbrev pub hex_digit : ℕ → ℕ
hex_digit number = if nat_lt number 10 then 48 + number else 87 + number

-- a code as JSON writes it: after a backslash (92) and a u (117), in four hexadecimal digits, of which the first two are 0 (48)
abbrev pub escape_text : ℕ → List ℕ
escape_text code = 92 ∷ 117 ∷ 48 ∷ 48 ∷ hex_digit (code / 16) ∷ hex_digit (code % 16) ∷ []

-- what is shown of a byte before which none is held back: it may be held back itself
abbrev pub lone_text : ℕ → List ℕ
lone_text byte = if is_low byte then escape_text byte else (if byte == 194 then [] else byte ∷ [])

-- the same where the byte before it may be held back
abbrev pub byte_text : Bool → ℕ → List ℕ
byte_text false byte = lone_text byte
byte_text true byte = if is_upper byte then escape_text byte else 194 ∷ lone_text byte

-- what is shown of bytes, if the byte before them is held back or isn't
abbrev pub shown_text : Bool → List ℕ → List ℕ
shown_text held [] = []
shown_text held (byte ∷ rest) = byte_text held byte ++ shown_text (byte == 194) rest

-- whether the last byte is held back after that
abbrev pub is_held_after : Bool → List ℕ → Bool
is_held_after held [] = held
is_held_after held (byte ∷ rest) = is_held_after (byte == 194) rest

-- a byte that is still held back when the writer is flushed is shown by its code
abbrev pub left_text : Bool → List ℕ
left_text false = []
left_text true = escape_text 194

-- a byte that is shown as it is, if none before it is held back, and isn't held back itself
abbrev pub is_plain : ℕ → Bool
is_plain byte = if is_low byte then false else (if byte == 194 then false else true)

-- each of the first n bytes is such a one
abbrev pub IsPlain : List ℕ → ℕ → Type 0
IsPlain bytes n = (i : ℕ) → i < n → is_plain (get_or bytes i 0) ≡ true

-- what is known of a writer, unless it is a terminal
abbrev pub known_unless : Bool → Option (List ℕ) → Option (List ℕ)
known_unless true known = None
known_unless false known = known
