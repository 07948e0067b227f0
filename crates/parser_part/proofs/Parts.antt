-- What running a plan is, by its first step: the parts that the code reads are the plan's own. Assumes nothing.
use Rattle.std.proofs.Common.{◌≡◌, ℕ, cond, List, sym, refl, ap, ◌∙◌, Option, Some, None, Result, Ok, Err}
use Rattle.text.specs.Texts.{part, limit}
use Rattle.utf8.specs.Utf8.{valid_utf8}
use Rattle.text.specs.declared.Text.{Text}
use Rattle.text.proofs.Lists.{by-test}
use Rattle.number.specs.Decimal.{parse_below}
use Rattle.idcode.specs.Id.{parse_id}
use Rattle.idcode.specs.declared.IdCode.{IdCode}
use Rattle.idcode.specs.declared.InvalidIdCode.{InvalidIdCode}
use Rattle.command.specs.declared.Refusal.{Refusal}
use Rattle.command.specs.declared.SimulationCommand.{SimulationCommand}
use Rattle.command.specs.declared.Command.{Command}
use Rattle.token.specs.Read.{Reading, Bound, most, unlimited, Valid, token, text_from}
use Rattle.token.proofs.Tokens.{no-limit}
use Rattle.token.specs.declared.Cursor.{Cursor}
use Rattle.parser_part.specs.Plan.{Plan, answer, begins, ends, refuse, a_token, a_text, a_word, a_number, an_id, numbered, identified, with_open, refused, and_then, ended, run, trimmed_in}
use Rattle.parser_part.specs.Parts.{judged, word_from, number_at, number_of_token, number_from, id_at, id_of_token, id_from, trimmed_from}

-- on with a number or an id, and the cursor after it
abbrev pub number_then : (ℕ → Cursor → Reading Command) → Reading ℕ → Reading Command
number_then more (Ok (v, d)) = more v d
number_then more (Err (e, d)) = refused e d

abbrev pub id_then : (IdCode → Cursor → Reading Command) → Reading IdCode → Reading Command
id_then more (Ok (i, d)) = more i d
id_then more (Err (e, d)) = refused e d

module _ (s : List ℕ) (c : Cursor) where
  -- ---- the end of a plan
  pub run-answer : (k : Command) → run (answer k) s c ≡ Ok (k, c)
  unfolding run
  run-answer k = refl

  pub run-begins : (k : SimulationCommand) → run (begins k) s c ≡ Ok (Command.Begin k, with_open c (Some k))
  unfolding run
  run-begins k = refl

  pub run-ends : run ends s c ≡ ended c.sim c
  unfolding run
  run-ends = refl

  pub run-refuse : (e : Refusal) → run (refuse e) s c ≡ Err (e, c)
  unfolding run
  run-refuse e = refl

  -- ---- a part, and on
  pub run-token : (n : Bound) (f : Text → List ℕ → Plan) → run (a_token n f) s c ≡ and_then (λ t d. run (f t (part s t)) s d) (token s c n)
  unfolding run
  run-token n f = refl

  -- a token without a limit is one with the input's
  pub word_unlimited : Valid s c → word_from s c (most limit) ≡ word_from s c unlimited
  unfolding word_from
  word_unlimited v = ap (judged s) (sym (no-limit s c v))

  pub run-no-limit : (f : Text → List ℕ → Plan) → Valid s c → run (a_token unlimited f) s c ≡ run (a_token (most limit) f) s c
  unfolding run
  run-no-limit f v = ap (and_then (λ t d. run (f t (part s t)) s d)) (no-limit s c v)

  pub run-text : (f : Text → List ℕ → Plan) → run (a_text f) s c ≡ and_then (λ t d. run (f t (part s t)) s d) (text_from s c)
  unfolding run
  run-text f = refl

  pub run-word : (n : Bound) (f : Text → List ℕ → Plan) → run (a_word n f) s c ≡ and_then (λ t d. run (f t (part s t)) s d) (word_from s c n)
  unfolding run word_from
  run-word n f = go (token s c n)
    where
      go : (k : Reading Text) → and_then (λ t d. run (cond (valid_utf8 (part s t)) (f t (part s t)) (refuse Refusal.InvalidUtf8)) s d) k
          ≡ and_then (λ t d. run (f t (part s t)) s d) (judged s k)
      go (Ok (t, d)) = by-test (valid_utf8 (part s t)) (λ e. rw e) (λ e. rw e)
      go (Err (e, d)) = refl

  pub run-number : (limit : ℕ) (f : ℕ → Plan) → run (a_number limit f) s c ≡ number_then (λ v d. run (f v) s d) (number_from s c limit)
  unfolding run number_from
  run-number limit f = run-word (most 32) (λ t w. numbered (parse_below limit w) f) ∙ go (word_from s c (most 32))
    where
      at : (n : Option ℕ) (d : Cursor) → run (numbered n f) s d ≡ number_then (λ v e. run (f v) s e) (number_at n d)
      at (Some v) d = refl
      at None d = refl

      go : (k : Reading Text) → and_then (λ t d. run (numbered (parse_below limit (part s t)) f) s d) k ≡ number_then (λ v d. run (f v) s d) (number_of_token s limit k)
      go (Ok (t, d)) = at (parse_below limit (part s t)) d
      go (Err (e, d)) = refl

  pub run-id : (f : IdCode → Plan) → run (an_id f) s c ≡ id_then (λ i d. run (f i) s d) (id_from s c)
  unfolding run id_from
  run-id f = run-word (most 32) (λ t w. identified (parse_id w) f) ∙ go (word_from s c (most 32))
    where
      at : (p : Result IdCode InvalidIdCode) (d : Cursor) → run (identified p f) s d ≡ id_then (λ i e. run (f i) s e) (id_at p d)
      at (Ok i) d = refl
      at (Err e) d = refl

      go : (k : Reading Text) → and_then (λ t d. run (identified (parse_id (part s t)) f) s d) k ≡ id_then (λ i d. run (f i) s d) (id_of_token s k)
      go (Ok (t, d)) = at (parse_id (part s t)) d
      go (Err (e, d)) = refl

  -- a text up to `$end` that must be UTF-8, without the White_Space round it
  pub run-remark : (k : Text → Plan)
      → run (a_text (λ t w. cond (valid_utf8 w) (k (trimmed_in t w)) (refuse Refusal.InvalidUtf8))) s c
      ≡ and_then (λ t d. run (k t) s d) (trimmed_from s (text_from s c))
  unfolding run
  run-remark k = go (text_from s c)
    where
      go : (x : Reading Text) → and_then (λ t d. run (cond (valid_utf8 (part s t)) (k (trimmed_in t (part s t))) (refuse Refusal.InvalidUtf8)) s d) x
          ≡ and_then (λ t d. run (k t) s d) (trimmed_from s x)
      go (Ok (t, d)) = by-test (valid_utf8 (part s t)) (λ e. rw e) (λ e. rw e)
      go (Err (e, d)) = refl

-- how a plan is run, step by step
pub ruleset parts = (run-answer, run-begins, run-ends, run-refuse, run-token, run-word, run-number, run-id, run-remark)
