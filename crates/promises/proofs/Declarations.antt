-- The layout of each `$` command reads back: one line for each part. Assumes nothing.
use Rattle.std.specs.Prelude.{Option, Some, None}
use Prim.Native.Nat.{ℕ, ◌^◌, ◌≤◌, ◌<◌}
use mathlib.Core.Path.{◌≡◌, refl, sym, ap, ◌∙◌}
use mathlib.Core.Bool.{true, false, false≢true}
use mathlib.Core.List.{List, [], ◌∷◌, ◌++◌, append_assoc}
use native.Mathlib.Nat.{le_refl}
use native.Mathlib.Omega.{arith}
use borrow.Author.Tests.{eqb-true, lt-ltb}
use lib.ListN.{length, drop, take-append-drop}
use lib.Seq.{drop-length}
use Rattle.text.specs.Bytes.{is_blank, bytes, equal, has, starts, holds, all_blank, no_blank, is_token}
use Rattle.command.specs.Numbers.{sim_number}
use Rattle.command.specs.Words.{end_mark}
use Rattle.command.proofs.Numbers.{sim-order}
use Rattle.text.specs.Names.{lookup}
use Rattle.text.specs.Texts.{part}
use Rattle.utf8.specs.Utf8.{lies, due_after, well_formed, valid_utf8}
use Rattle.text.specs.declared.Text.{Text}
use Rattle.text.proofs.Lists.{both, cond_both}
use Rattle.text.proofs.Orders.{same}
use Rattle.number.specs.Decimal.{is_digit, all_digits, decimal_of}
use Rattle.real.specs.Real.{digits_in}
use Rattle.number.proofs.Laws.{digit-range}
use Rattle.number.proofs.Writing.{read-written, digits_decimal, short}
use Rattle.idcode.specs.Id.{id_text}
use Rattle.idcode.specs.declared.IdCode.{IdCode}
use Rattle.timescale.specs.Ieee.{unit_name}
use Rattle.timescale.specs.declared.TimescaleUnit.{TimescaleUnit}
use Rattle.timescale.proofs.Units.{unit-names}
use Rattle.scope.specs.Index.{index_text}
use Rattle.scope.specs.Types.{scope_name, var_name}
use Rattle.scope.specs.declared.ReferenceIndex.{ReferenceIndex}
use Rattle.scope.specs.declared.ScopeType.{ScopeType}
use Rattle.scope.specs.declared.Var.{Var}
use Rattle.scope.specs.declared.VarType.{VarType}
use Rattle.scope.proofs.Types.{scope-names, var-names}
use Rattle.scope.specs.Index.{SizedIndex}
use Rattle.scope.proofs.Indexes.{Given, read-index, index-length, index-plain, index-begins}
use Rattle.command.specs.Meaning.{Meaning, Remark, comment, date, version, remark, timescale, scope_def, upscope, var_def, enddefinitions, begin, end, meaning}
use Rattle.command.specs.declared.Command.{Command}
use Rattle.command.specs.declared.SimulationCommand.{SimulationCommand}
use Rattle.token.specs.Read.{most, unlimited, Valid}
use Rattle.token.specs.declared.Cursor.{Cursor}
use Rattle.token.proofs.Reading.{part_in}
use Rattle.parser_part.specs.Plan.{run, trimmed_in, is_ascii, a_word, last_of, var_end, remark_of, remark as remark_plan, var_def as var_command}
use Rattle.parser.specs.Next.{next_of, next_from}
use Rattle.parser.specs.All.{Said, said, says}
use Rattle.command.specs.declared.Word.{Word}
use Rattle.write_check.specs.Check.{is_name, is_trimmed}
use Rattle.write.specs.Layout.{layout, is_id, is_open}
use Rattle.write.specs.Run.{}
use Rattle.promises.proofs.Back.{Before, Back, by_word, by-text, by_answer, by-begins, by-ends, by-closing, by-dollar}
use Rattle.promises.proofs.Plain.{plain, plain-name, plain-number, plain-id}
use Rattle.promises.proofs.Changes.{id-fits}
use Rattle.promises.proofs.Trims.{framed-valid, framed-trim, framed-none}

end-valid : valid_utf8 end_mark ≡ true
unfolding valid_utf8 well_formed due_after lies
end-valid = refl

-- digits alone are ASCII, and all of them lead
quantity : (w : List ℕ) → all_digits w ≡ true → (is_ascii w ≡ true) × (digits_in w ≡ w)
unfolding is_ascii digits_in all_digits
quantity [] e = (refl, refl)
quantity (b ∷ w) e =
    let h = cond_both (is_digit b) (all_digits w) e in
    let j = quantity w h.1 in
    rw (h.0, lt-ltb b 128 (omega (arith, (digit-range b h.0).1))) (j.0, ap (λ (l : List ℕ). b ∷ l) j.1)

-- the text inside a framed one
inner : (s : List ℕ) (t : Text) (x : List ℕ) → is_trimmed x ≡ true → part s t ≡ bytes "    " ++ (x ++ bytes "\n")
    → part s (trimmed_in t (bytes "    " ++ (x ++ bytes "\n"))) ≡ x
unfolding part
inner s t [] e q = rw framed-none
inner s t (a ∷ x) e q =
    let y : List ℕ = drop t.len (drop t.start s) in
    let whole : drop t.start s ≡ bytes "    " ++ ((a ∷ x) ++ (10 ∷ y)) =
    sym (take-append-drop t.len (drop t.start s)) ∙ ap (λ (l : List ℕ). l ++ y) q ∙ ap (λ (l : List ℕ). bytes "    " ++ l) (append_assoc (a ∷ x) (10 ∷ []) y) in
    rw (framed-trim a x e) (part_in s (bytes "    ") (a ∷ x) (10 ∷ y) t.start whole)

-- ---- which simulation command is open, by its number
open_is : (o : Option SimulationCommand) (k : SimulationCommand) → is_open o k ≡ true → o ≡ Some k
unfolding is_open
open_is None k e = absurd (false≢true e)
open_is (Some j) k e = ap Some (same sim-order j k (eqb-true (sim_number j) (sim_number k) e))

module _ (s g r : List ℕ) (c e : Cursor) (v : Valid s c) (p : all_blank g ≡ true) where
  -- ---- one word
  pub upscope-back : Back s g r c e upscope
  unfolding layout lookup equal is_blank is_token no_blank
  upscope-back h =
      by-dollar s g r c e v p _ Word.Upscope (bytes "upscope") 32 (bytes "$end\n") h refl refl (omega arith) refl
      λ d a. by-closing s r e upscope Command.Upscope refl d a

  pub enddefinitions-back : Back s g r c e enddefinitions
  unfolding layout lookup equal is_blank is_token no_blank
  enddefinitions-back h =
      by-dollar s g r c e v p _ Word.Enddefinitions (bytes "enddefinitions") 32 (bytes "$end\n") h refl refl (omega arith) refl
      λ d a. by-closing s r e enddefinitions Command.Enddefinitions refl d a

  pub begin-back : (k : SimulationCommand) → Back s g r c e (begin k)
  unfolding layout lookup equal is_blank is_token no_blank
  begin-back SimulationCommand.Dumpall h = by-dollar s g r c e v p _ _ (bytes "dumpall") 10 [] h refl refl (omega arith) refl λ d a. by-begins s r e _ d a
  begin-back SimulationCommand.Dumpoff h = by-dollar s g r c e v p _ _ (bytes "dumpoff") 10 [] h refl refl (omega arith) refl λ d a. by-begins s r e _ d a
  begin-back SimulationCommand.Dumpon h = by-dollar s g r c e v p _ _ (bytes "dumpon") 10 [] h refl refl (omega arith) refl λ d a. by-begins s r e _ d a
  begin-back SimulationCommand.Dumpvars h = by-dollar s g r c e v p _ _ (bytes "dumpvars") 10 [] h refl refl (omega arith) refl λ d a. by-begins s r e _ d a

  pub end_back : (k : SimulationCommand) → is_open e.sim k ≡ true → Back s g r c e (end k)
  unfolding layout lookup equal is_blank is_token no_blank
  end_back k o h =
      by-dollar s g r c e v p _ Word.End (bytes "end") 10 [] h refl refl (omega arith) refl
      λ d a. by-ends s r e k d a (open_is e.sim k o)

  -- ---- a text
  remark-means : (k : Remark) (t : Text) → meaning s (remark_of k t) ≡ remark k (part s t)
  remark-means comment t = refl
  remark-means date t = refl
  remark-means version t = refl

  remark-text : (k : Remark) (x : List ℕ) (d : Cursor) → valid_utf8 x ≡ true → is_trimmed x ≡ true → holds end_mark x ≡ false
      → Before s d ((bytes "    " ++ x) ++ bytes "\n$end") r e → says s (next_of (run (remark_plan k) s d)) ≡ said (remark k x) e
  unfolding holds has starts
  remark-text k x d u z n a =
      by-text s r e _ d _ (bytes "    " ++ x) 10 [] a n refl
      λ t d q a. rw (framed-valid x u) (by_answer s r e (remark k x) (remark_of k (trimmed_in t (bytes "    " ++ (x ++ bytes "\n")))) (remark-means k _ ∙ ap (remark k) (inner s t x z q)) d a)

  pub remark-back : (k : Remark) (x : List ℕ) → valid_utf8 x ≡ true → is_trimmed x ≡ true → holds end_mark x ≡ false → Back s g r c e (remark k x)
  unfolding lookup equal is_blank is_token no_blank
  remark-back comment x u z n h =
      by-dollar s g r c e v p _ Word.Comment (bytes "comment") 10 ((bytes "    " ++ x) ++ bytes "\n$end") h refl refl (omega arith) refl λ d a. remark-text comment x d u z n a
  remark-back date x u z n h =
      by-dollar s g r c e v p _ Word.Date (bytes "date") 10 ((bytes "    " ++ x) ++ bytes "\n$end") h refl refl (omega arith) refl λ d a. remark-text date x d u z n a
  remark-back version x u z n h =
      by-dollar s g r c e v p _ Word.Version (bytes "version") 10 ((bytes "    " ++ x) ++ bytes "\n$end") h refl refl (omega arith) refl λ d a. remark-text version x d u z n a

  -- ---- a quantity and a unit
  pub timescale-back : (n : ℕ) (u : TimescaleUnit) → n ≤ 99999999 → n < 2 ^ 32 → Back s g r c e (timescale n u)
  unfolding layout lookup equal is_blank is_token no_blank
  timescale-back n u b z h =
      let w = plain-number n (omega arith) in
      let q = quantity (decimal_of n) (digits_decimal n) in
      let m = unit-names.like u in
      let o = plain-name (bytes (unit_name u)) m in
      by-dollar s g r c e v p _ Word.Timescale (bytes "timescale") 32 (decimal_of n ++ 32 ∷ (bytes (unit_name u) ++ bytes " $end\n")) h refl refl (omega arith) refl
      λ d a. by_word s r e _ d (most 8) _ (decimal_of n) 32 (bytes (unit_name u) ++ bytes " $end\n") a w.token refl (short 7 n (omega arith)) w.utf8
      λ t d i a. rw (q.0, q.1, drop-length (decimal_of n))
      (by_word s r e _ d (most 8) _ (bytes (unit_name u)) 32 (bytes "$end\n") a o.token refl (unit-short u) o.utf8
      λ t d i a. rw (read-written (2 ^ 32) n z, unit-names.back u) (by-closing s r e (timescale n u) (Command.Timescale n u) refl d a))
    where
      unit-short : (u : TimescaleUnit) → length (bytes (unit_name u)) ≤ 8
      unit-short TimescaleUnit.S = omega arith
      unit-short TimescaleUnit.MS = omega arith
      unit-short TimescaleUnit.US = omega arith
      unit-short TimescaleUnit.NS = omega arith
      unit-short TimescaleUnit.PS = omega arith
      unit-short TimescaleUnit.FS = omega arith

  -- ---- a scope
  pub scope-back : (k : ScopeType) (x : List ℕ) → is_name x ≡ true → Back s g r c e (scope_def k x)
  unfolding layout lookup equal is_blank is_token no_blank is_name
  scope-back k x z h =
      let n = plain-name (bytes (scope_name k)) (scope-names.like k) in
      let x-is = both (is_token x) (valid_utf8 x) z in
      by-dollar s g r c e v p _ Word.Scope (bytes "scope") 32 (bytes (scope_name k) ++ 32 ∷ (x ++ bytes " $end\n")) h refl refl (omega arith) refl
      λ d a. by_word s r e _ d (most 32) _ (bytes (scope_name k)) 32 (x ++ bytes " $end\n") a n.token refl n.short n.utf8
      λ t d q a. rw (scope-names.back k)
      (by_word s r e _ d unlimited _ x 32 (bytes "$end\n") a x-is.0 refl (le_refl _) x-is.1
      λ t d q a. by-closing s r e (scope_def k x) (Command.ScopeDef k t) (ap (scope_def k) q) d a)

  -- ---- a variable up to its name
  abbrev named : VarType → ℕ → IdCode → Text → Var
  named k n i t = record { var_type = k; size = n; code = i; reference = t; index = ReferenceIndex.None }

  var-part : (k : VarType) (n : ℕ) (i : IdCode) (x : List ℕ) (y : Said) (l : List ℕ) → n < 2 ^ 32 → is_id i ≡ true → i.0 < 2 ^ 64 → is_name x ≡ true
      → Before s c (g ++ (bytes "$var " ++ (bytes (var_name k) ++ (bytes " " ++ (decimal_of n ++ (bytes " " ++ (id_text i.0 ++ (bytes " " ++ (x ++ (bytes " " ++ l)))))))))) r e
      → ((t : Text) (d : Cursor) → part s t ≡ x → Before s d l r e → says s (next_of (run (var_end (named k n i t)) s d)) ≡ y) → says s (next_from s c) ≡ y
  unfolding lookup equal is_blank is_token no_blank is_name
  var-part k n i x y l b f z o h next =
      let m = plain-name (bytes (var_name k)) (var-names.like k) in
      let num = plain-number n (omega arith) in
      let w = plain-id i.0 z in
      let x-is = both (is_token x) (valid_utf8 x) o in
      let l₁ : List ℕ = x ++ 32 ∷ l in
      let l₂ : List ℕ = id_text i.0 ++ 32 ∷ l₁ in
      let l₃ : List ℕ = decimal_of n ++ 32 ∷ l₂ in
      by-dollar s g r c e v p _ Word.Var (bytes "var") 32 (bytes (var_name k) ++ 32 ∷ l₃) h refl refl (omega arith) refl
      λ d a. by_word s r e _ d (most 32) _ (bytes (var_name k)) 32 l₃ a m.token refl m.short m.utf8
      λ t d q a. rw (var-names.back k)
      (by_word s r e _ d (most 32) _ (decimal_of n) 32 l₂ a num.token refl num.short num.utf8
      λ t d q a. rw (read-written (2 ^ 32) n b)
      (by_word s r e _ d (most 32) _ (id_text i.0) 32 l₁ a w.token refl w.short w.utf8
      λ t d q a. rw (id-fits i f z)
      (by_word s r e _ d unlimited _ x 32 l a x-is.0 refl (le_refl _) x-is.1
      λ t d q a. next t d q a)))

  -- the last token
  var-last : (m : Meaning) (k : Command) (d : Cursor) → meaning s k ≡ m → Before s d (bytes "$end\n") r e → says s (next_of (run (a_word (most 32) (λ u l. last_of k l)) s d)) ≡ said m e
  unfolding equal is_blank is_token no_blank
  var-last m k d q a = by_word s r e _ d (most 32) _ end_mark 10 [] a refl refl (omega arith) end-valid λ t d q' a. by_answer s r e m k q d a

  -- an index, and the last token
  var-index : (m : Meaning) (y : Var) (x : ReferenceIndex) (d : Cursor) → Given x → SizedIndex x → meaning s (var_command y x) ≡ m
      → Before s d (index_text x ++ bytes " $end\n") r e → says s (next_of (run (var_end y) s d)) ≡ said m e
  unfolding is_blank
  var-index m y x d given sized q a =
      let w = plain (index_text x) (index-some x given) (omega (arith, index-length x sized)) (index-plain x) in
      by_word s r e _ d (most 32) _ (index_text x) 32 (bytes "$end\n") a w.token refl w.short w.utf8
      λ t d q' a. rw (index-begins x given, read-index x given sized) (var-last m (var_command y x) d q a)
    where
      index-some : (x : ReferenceIndex) → Given x → 0 < length (index_text x)
      index-some ReferenceIndex.None g = absurd g
      index-some (ReferenceIndex.BitSelect a) g = omega arith
      index-some (ReferenceIndex.Range a b) g = omega arith

  pub var-back : (k : VarType) (n : ℕ) (i : IdCode) (t : List ℕ) (x : ReferenceIndex) → n < 2 ^ 32 → is_id i ≡ true → i.0 < 2 ^ 64 → is_name t ≡ true → SizedIndex x
      → Back s g r c e (var_def k n i t x)
  unfolding layout equal is_blank is_token no_blank starts
  var-back k n i t ReferenceIndex.None b f z o u h =
      let x : ReferenceIndex = ReferenceIndex.None in
      var-part k n i t _ (bytes "$end\n") b f z o h
      λ p d q a. by_word s r e _ d (most 32) _ end_mark 10 [] a refl refl (omega arith) end-valid
      λ p' d q' a. by_answer s r e (var_def k n i t x) (Command.VarDef k n i p x) (ap (λ (w : List ℕ). var_def k n i w x) q) d a
  var-back k n i t (ReferenceIndex.BitSelect a) b f z o u h =
      let x : ReferenceIndex = ReferenceIndex.BitSelect a in
      var-part k n i t _ (index_text x ++ bytes " $end\n") b f z o h
      λ p d q y. var-index (var_def k n i t x) (named k n i p) x d tt u (ap (λ (w : List ℕ). var_def k n i w x) q) y
  var-back k n i t (ReferenceIndex.Range a a') b f z o u h =
      let x : ReferenceIndex = ReferenceIndex.Range a a' in
      var-part k n i t _ (index_text x ++ bytes " $end\n") b f z o h
      λ p d q y. var-index (var_def k n i t x) (named k n i p) x d tt u (ap (λ (w : List ℕ). var_def k n i w x) q) y
