-- What a person is told of a bad line: a sentence, and the line as it is shown.
use Rattle.std.specs.Prelude.{ℕ, ◌+◌, ◌/◌, ◌%◌, ◌&&◌, nat_le, nat_lt, List, [], ◌∷◌, ◌++◌, codes, if◌then◌else◌}
use Rattle.std.specs.List.{flat_map}
use Rattle.std.specs.Fmt.{decimal}
use Rattle.sd_base.specs.declared.refusal.LineError.{LineError}
use Rattle.sd_top.specs.declared.first_bad.BadLine.{BadLine}

-- what is wrong with a line of this cause
abbrev pub reason : LineError → List ℕ
reason LineError.Size = codes "it is too long, or the script has too many lines, bytes or tables"
reason LineError.Byte = codes "it has a byte that is neither a printed one of ASCII nor a space"
reason LineError.Order = codes "the script begins with one line `complex N P F`, and has no other"
reason LineError.Word = codes "no line has its words"
reason LineError.Number = codes "a number in it has not the form of one, or is out of its range"
reason LineError.Name = codes "a name in it is not a letter and at most 15 letters and digits"
reason LineError.Place = codes "the complex has no instance or page of a number in it"
reason LineError.Used = codes "an earlier line has begun a transaction of its name"
reason LineError.Unknown = codes "no earlier line has begun a transaction of its name"

-- the digit of a number below 16
abbrev pub hex_digit : ℕ → ℕ
hex_digit number = if nat_lt number 10 then 48 + number else 87 + number

-- a byte that is printed stands for itself, and another one as \x and two digits
abbrev pub shown_byte : ℕ → List ℕ
shown_byte byte =
    if nat_le 32 byte && nat_le byte 126 then byte ∷ [] else 92 ∷ 120 ∷ hex_digit (byte / 16) ∷ hex_digit (byte % 16) ∷ []

abbrev pub shown : List ℕ → List ℕ
shown bytes = flat_map shown_byte bytes

-- the line; nothing where it has no byte
abbrev pub line_shown : List ℕ → List ℕ
line_shown [] = []
line_shown (b ∷ bytes) = codes "    " ++ shown (b ∷ bytes) ++ 10 ∷ []

-- the sentence, and under it the line
abbrev pub note_text : BadLine → List ℕ
note_text bad = codes "sdaries: line " ++ decimal bad.line ++ codes " is bad: " ++ reason bad.cause ++ codes ".\n" ++ line_shown bad.bytes.items
