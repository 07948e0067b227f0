-- The states as words: what a cursor, a writer and a header's kept values are in them, and which words are none.
use Rattle.timescale.specs.declared.TimescaleUnit.{TimescaleUnit}
use Rattle.text.specs.declared.Text.{Text}
use Rattle.command.specs.declared.SimulationCommand.{SimulationCommand}
use Rattle.std.specs.Prelude.{ℕ, ◌+◌, ◌-◌, ◌^◌, Bool, cond, ◌&&◌, List, [], ◌∷◌, ◌++◌, eqb, leb, ltb, length, get_or, Option, Some, None}
use Rattle.header.specs.declared.Header.{Header}
use Rattle.command.specs.Numbers.{sim_number, sim_of}
use Rattle.timescale.specs.Numbers.{unit_number, unit_of}
use Rattle.token.specs.Read.{bit}
use Rattle.token.specs.declared.Cursor.{Cursor}
use Rattle.write.specs.declared.Writer.{Writer}

-- the open simulation command: 0 for none, else one more than its type
abbrev pub open_word : Option SimulationCommand → ℕ
open_word None = 0
open_word (Some k) = sim_number k + 1

unfoldable pub open_of : ℕ → Option SimulationCommand
open_of w = cond (eqb w 0) None (Some (sim_of (w - 1)))

-- place, line, whether a newline is pending, the open simulation command
abbrev pub cursor_words : Cursor → List ℕ
cursor_words c = c.place ∷ c.line ∷ bit c.pending ∷ open_word c.sim ∷ []

unfoldable pub cursor_of : List ℕ → Option Cursor
cursor_of w =
    let word : ℕ → ℕ = λ j. get_or w j 0 in
    cond (eqb (length w) 4 && leb (word 2) 1 && leb (word 3) 4)
    (Some (record { place = word 0; line = word 1; pending = eqb (word 2) 1; sim = open_of (word 3) }))
    None

-- depth, next id, the open simulation command
abbrev pub writer_words : Writer → List ℕ
writer_words v = v.depth ∷ v.id.0 ∷ open_word v.sim ∷ []

unfoldable pub writer_of : List ℕ → Option Writer
writer_of w =
    let word : ℕ → ℕ = λ j. get_or w j 0 in
    cond (eqb (length w) 3 && leb (word 2) 4)
    (Some (record { depth = word 0; id = record { 0 = word 1 }; sim = open_of (word 2) }))
    None

-- what a header keeps: 1 and two numbers, or three zeros
abbrev pub text_words : Option Text → List ℕ
text_words None = 0 ∷ 0 ∷ 0 ∷ []
text_words (Some t) = 1 ∷ t.start ∷ t.len ∷ []

abbrev pub scale_words : Option (ℕ × TimescaleUnit) → List ℕ
scale_words None = 0 ∷ 0 ∷ 0 ∷ []
scale_words (Some (n, u)) = 1 ∷ n ∷ unit_number u ∷ []

unfoldable pub is_kept : ℕ → ℕ → ℕ → Bool
is_kept h s l = cond (eqb h 0) (eqb s 0 && eqb l 0) (eqb h 1)

unfoldable pub is_scale : ℕ → ℕ → ℕ → Bool
is_scale h n u = cond (eqb h 0) (eqb n 0 && eqb u 0) (eqb h 1 && ltb n (2 ^ 32) && ltb u 6)

unfoldable pub text_of : ℕ → ℕ → ℕ → Option Text
text_of h s l = cond (eqb h 0) None (Some (record { start = s; len = l }))

unfoldable pub scale_of : ℕ → ℕ → ℕ → Option (ℕ × TimescaleUnit)
scale_of h n u = cond (eqb h 0) None (Some (n, unit_of u))

-- the count of rows, then date, version and timescale
abbrev pub head_words : Header → ℕ → List ℕ
head_words h n = n ∷ (text_words h.date ++ (text_words h.version ++ scale_words h.timescale))

unfoldable pub head_of : List ℕ → Option (Header × ℕ)
head_of w =
    let word : ℕ → ℕ = λ j. get_or w j 0 in
    cond (eqb (length w) 10 && is_kept (word 1) (word 2) (word 3) && is_kept (word 4) (word 5) (word 6) && is_scale (word 7) (word 8) (word 9))
    (Some (
      (record {
        date = text_of (word 1) (word 2) (word 3);
        version = text_of (word 4) (word 5) (word 6);
        timescale = scale_of (word 7) (word 8) (word 9);
      }),
      word 0,
    ))
    None
