-- Limits, and which part is judged first: what a reader at the start of an input answers, as the page's number.
use Rattle.std.specs.Prelude.{ℕ, List, [], ◌∷◌, ◌++◌}
use Rattle.text.specs.Bytes.{bytes}
use Rattle.command.specs.Refusals.{number_of}
use Rattle.parser.specs.Next.{next_from, fresh}
use Rattle.parser.specs.declared.Next.{Next}

-- a refusal's number; 0 for a command, 255 at the end
abbrev pub numbered : Next → ℕ
numbered (Next.Command k d) = 0
numbered (Next.Refused e n d) = number_of e
numbered (Next.Done d) = 255

abbrev pub answered : List ℕ → ℕ
answered s = numbered (next_from s fresh)

-- a byte that no UTF-8 has, and a blank; a letter that is not ASCII, and a blank
abbrev pub not_utf8 : List ℕ
not_utf8 = 255 ∷ 32 ∷ []

abbrev pub not_ascii : List ℕ
not_ascii = 195 ∷ 169 ∷ 32 ∷ []

-- A command word has at most 16 bytes, a closing token 8, and 32 after a variable. Closing tokens need not be UTF-8, but a variable's and
-- names must. One more token follows an index. Of a timescale, a first token that is not ASCII is 11 at once, before its quantity is
-- judged; else the quantity is judged before the unit, and a first token of digits alone is judged after a second one was read. (At most
-- eight digits always fit, so what shows is only that the second one is read, and judged as a token, first.)
abbrev pub judged : List (List ℕ × ℕ)
judged =
    (bytes "$sixteenletters_x ", 7)
    ∷ (bytes "$seventeenletters_", 4)
    ∷ (bytes "$upscope 12345678 ", 5)
    ∷ (bytes "$upscope 123456789", 4)
    ∷ (bytes "$var wire 1 ! a 123456789 ", 5)
    ∷ (bytes "$upscope " ++ not_utf8, 5)
    ∷ (bytes "$scope module " ++ not_utf8, 2)
    ∷ (bytes "$var wire 1 ! a " ++ not_utf8, 2)
    ∷ (bytes "$timescale 1" ++ not_ascii, 11)
    ∷ (bytes "$timescale " ++ not_ascii, 11)
    ∷ (bytes "$timescale x ", 9)
    ∷ (bytes "$timescale 1x ", 11)
    ∷ (bytes "$timescale 99999999 ", 1)
    ∷ (bytes "$timescale 1 123456789", 4)
    ∷ (bytes "$timescale 1 " ++ not_utf8, 2)
    ∷ (bytes "$timescale 1 x ", 11)
    ∷ (bytes "$timescale 1 s x ", 5)
    ∷ (bytes "$var wire 1 ! a [0] ", 1)
    ∷ (bytes "$var wire 1 ! a [0] b ", 5)
    ∷ (bytes "$var wire 1 ! a [0] $end ", 0)
    ∷ []
