-- What is printed of a run, as bytes in ASCII: document 02, W2. Assumes nothing.
use Rattle.std.specs.Prelude.{ℕ, zero, suc, ◌+◌, ◌*◌, ◌/◌, ◌%◌, ◌^◌, true, false, cond, List, [], ◌∷◌, ◌++◌, ltb, Option, Some, None}
use Prim.Native.Char.{code}
use Prim.Native.String.{String, [] as []ˢ, ◌∷◌ as ◌∷ˢ◌}
use Rattle.store.specs.State.{returned, value}
use Rattle.call_log.specs.Records.{fault_number, kind_of}
use Rattle.call_log.specs.Run.{Answered, Run}
use Rattle.call_log.specs.declared.record.Fault.{Fault}

-- the codes of a text's characters
abbrev pub ascii : String → List ℕ
ascii []ˢ = []
ascii (c ∷ˢ s) = code c ∷ ascii s

-- a digit below 16: `0` to `9`, then `A` to `F`
unfoldable pub digit : ℕ → ℕ
digit d = cond (ltb d 10) (48 + d) (55 + d)

-- the last k hexadecimal digits of n, the most significant first
unfoldable pub hexadecimal : ℕ → ℕ → List ℕ
hexadecimal zero n = []
hexadecimal (suc k) n = digit (n / 16 ^ k % 16) ∷ hexadecimal k n

-- n in decimal, with no zeros in front, by at most k digits before the last
unfoldable pub decimal_in : ℕ → ℕ → List ℕ
decimal_in zero n = digit (n % 10) ∷ []
decimal_in (suc k) n =
    elim (ltb n 10) [
      | true ↦ digit n ∷ []
      | false ↦ decimal_in k (n / 10) ++ (digit (n % 10) ∷ [])
    ]

-- n in decimal, with no zeros in front
unfoldable pub decimal : ℕ → List ℕ
decimal n = decimal_in n n

-- a piece of text, and the byte behind it: 32 is a space, 10 ends a line
abbrev pub closed_by : ℕ → List ℕ → List ℕ
closed_by b xs = xs ++ (b ∷ [])

-- a line: kind and refusal (0 for none) in decimal, the value as 16 hexadecimal digits, one space between
unfoldable pub line_of : ℕ → ℕ → ℕ → List ℕ
line_of kind refusal v = closed_by 32 (decimal kind) ++ (closed_by 32 (decimal refusal) ++ closed_by 10 (hexadecimal 16 v))

-- the line of a call
abbrev pub answer_line : Answered → List ℕ
answer_line a = line_of (kind_of a.call) (returned a.answer) (value a.answer)

-- the lines of calls
unfoldable pub answer_lines : List Answered → List ℕ
answer_lines [] = []
answer_lines (a ∷ rest) = answer_line a ++ answer_lines rest

-- the line of a malformed record
unfoldable pub fault_line : Fault → List ℕ
fault_line f = ascii "log " ++ closed_by 10 (decimal (fault_number f))

-- what is printed of how a run ends
abbrev pub end_text : Option Fault → List ℕ
end_text None = []
end_text (Some f) = fault_line f

-- what is printed of a run: a line for each call in the log's order, and one for a malformed record
unfoldable pub printed : Run → List ℕ
printed r = answer_lines r.answered ++ end_text r.fault

-- bytes enough for what is printed of a log of n bytes: a line takes 23 at most and its record 10 at least, the line of a malformed record takes 7
abbrev pub text_room : ℕ → ℕ
text_room n = 23 * n / 10 + 7
