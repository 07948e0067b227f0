-- Words that are a command are that command's words, so a command has one record.
use Rattle.std.specs.Prelude.{Option, Some}
use Prim.Native.Nat.{ℕ, ◌^◌, ◌≤◌, ◌<◌}
use mathlib.Core.Path.{◌≡◌, refl, sym, ap, ◌∙◌}
use mathlib.Core.Bool.{Bool, true, false, ◌&&◌}
use mathlib.Core.List.{[], ◌∷◌}
use native.Mathlib.Omega.{arith}
use borrow.Author.Tests.{eqb-true, eqb-false, leb-true}
use lib.Dec.{eqb, leb, ltb}
use Rattle.text.proofs.Lists.{by-test, both, either}
use Rattle.value.proofs.Values.{value-kept}
use Rattle.timescale.proofs.Units.{unit_kept}
use Rattle.scope.specs.Numbers.{var_type_of}
use Rattle.scope.proofs.Types.{scope_kept, var-kept}
use Rattle.command.specs.declared.Command.{Command}
use Rattle.command.proofs.Numbers.{sim-kept}
use Rattle.rows.specs.Rows.{all_zero, signed_of, word_of, index_form, index_first, index_second, is_index, index_of}
use Rattle.rows.proofs.Words.{index-fits}
use Rattle.record.specs.Record.{record_of, text_of, command_in, command_of}
use Rattle.record.specs.Used.{number_most, amount_most, has_code, has_text, is_used}
use Rattle.record.specs.declared.RecordWords.{RecordWords}
use Rattle.record.proofs.ByKind.{by_kind}
use Rattle.record.proofs.Uses.{Used, used}

-- words without an index
abbrev bare : (k t v c s l : ℕ) → RecordWords
bare k t v c s l = record { kind = k; number = t; amount = v; code = c; start = s; len = l; form = 0; first = 0; second = 0 }

-- ---- words that a kind does not use are 0
module _ {k t v c s l : ℕ} (u : Used (bare k t v c s l)) where
  no-type : number_most k ≡ 0 → t ≡ 0
  no-type e = let h : t ≤ 0 = rw e at u.type in omega arith

  no-amount : amount_most k ≡ 0 → v ≡ 0
  no-amount e = let h : v ≤ 0 = rw e at u.number in omega arith

  no_code : has_code k ≡ false → c ≡ 0
  no_code e = either (eqb c 0) false (rw e at u.code) (λ q. eqb-true c 0 q) (λ q. absurd (let z : ◌≡◌ {A = ℕ} 0 1 = cc in omega arith))

  no_text : has_text k ≡ false → (s ≡ 0) × (l ≡ 0)
  no_text e =
      either (eqb s 0 && eqb l 0) false (rw e at u.text)
      (λ q. let x = both (eqb s 0) (eqb l 0) q in (eqb-true s 0 x.0, eqb-true l 0 x.1))
      (λ q. absurd (let z : ◌≡◌ {A = ℕ} 0 1 = cc in omega arith))

-- ---- the words of a command that words are: one kind after the other
abbrev Kept : ℕ → Type 0
Kept k = (t v c s l : ℕ) → Used (bare k t v c s l) → (k ≡ 7 → ⊥) → record_of (command_in (bare k t v c s l)) ≡ bare k t v c s l

kinds_kept : (k : ℕ) → 1 ≤ k → k ≤ 15 → Kept k
unfolding command_in number_most amount_most has_code has_text
kinds_kept =
    by_kind Kept
    (λ t v c s l u n. rw (no-type u refl, no-amount u refl, no_code u refl))
    (λ t v c s l u n. rw (no-type u refl, no-amount u refl, no_code u refl))
    (λ t v c s l u n. rw (no-type u refl, no-amount u refl, no_code u refl))
    (λ t v c s l u n. let h : t ≤ 5 = u.type in rw (unit_kept t (omega arith), no_code u refl, (no_text u refl).0, (no_text u refl).1))
    (λ t v c s l u n. let h : t ≤ 4 = u.type in rw (scope_kept t (omega arith), no-amount u refl, no_code u refl))
    (λ t v c s l u n. rw (no-type u refl, no-amount u refl, no_code u refl, (no_text u refl).0, (no_text u refl).1))
    (λ t v c s l u n. absurd (n refl))
    (λ t v c s l u n. rw (no-type u refl, no-amount u refl, no_code u refl, (no_text u refl).0, (no_text u refl).1))
    (λ t v c s l u n. rw (no-type u refl, no_code u refl, (no_text u refl).0, (no_text u refl).1))
    (λ t v c s l u n. let h : t ≤ 3 = u.type in rw (value-kept t (omega arith), no-amount u refl, (no_text u refl).0, (no_text u refl).1))
    (λ t v c s l u n. rw (no-type u refl, no-amount u refl))
    (λ t v c s l u n. rw (no-type u refl, no-amount u refl))
    (λ t v c s l u n. rw (no-type u refl, no-amount u refl))
    (λ t v c s l u n. let h : t ≤ 3 = u.type in rw (sim-kept t (omega arith), no-amount u refl, no_code u refl, (no_text u refl).0, (no_text u refl).1))
    (λ t v c s l u n. let h : t ≤ 3 = u.type in rw (sim-kept t (omega arith), no-amount u refl, no_code u refl, (no_text u refl).0, (no_text u refl).1))

-- ---- the words of an index
word_kept : (w : ℕ) → w < 4294967296 → word_of (signed_of w) ≡ w
unfolding signed_of
word_kept w h = by-test (ltb w (2 ^ 31)) (λ e. rw e) (λ e. rw e (omega arith))

index_kept : (f a b : ℕ) → is_index f a b ≡ true
    → (index_form (index_of f a b) ≡ f) × (index_first (index_of f a b) ≡ a) × (index_second (index_of f a b) ≡ b)
unfolding is_index index_of
index_kept f a b e =
    let fits = index-fits f a b e in
    by-test (eqb f 0)
    (λ q. let x = both (eqb a 0) (eqb b 0) (rw q at e) in rw (eqb-true f 0 q, eqb-true a 0 x.0, eqb-true b 0 x.1) (refl, refl, refl))
    (λ q.
    by-test (eqb f 1)
    (λ p.
    let x = both (ltb a (2 ^ 32)) (eqb b 0) (rw (q, p) at e) in
    rw (eqb-true f 1 p, eqb-true b 0 x.1) (refl, word_kept a fits.0, refl))
    (λ p.
    let x = both (eqb f 2 && ltb a (2 ^ 32)) (ltb b (2 ^ 32)) (rw (q, p) at e) in
    rw (eqb-true f 2 (both (eqb f 2) (ltb a (2 ^ 32)) x.0).0) (refl, word_kept a fits.0, word_kept b fits.1)))

-- ---- the command of nine words has those words
module _ (w : RecordWords) (m : Command) (e : command_of w ≡ Some m) where
  abbrev is_var : Bool
  is_var = leb w.number 17 && ltb w.amount (2 ^ 32) && is_index w.form w.first w.second

  abbrev var : Command
  var = Command.VarDef (var_type_of w.number) w.amount (record { 0 = w.code }) (text_of w) (index_of w.form w.first w.second)

  var-words : w.kind ≡ 7 → record_of m ≡ w
  unfolding command_of
  var-words k =
      by-test is_var
      (λ q.
      let is : ◌≡◌ {A = (Option Command)} (Some var) (Some m) = rw (k, q) at e in
      let m-is : var ≡ m = cc in
      let x = both (leb w.number 17 && ltb w.amount (2 ^ 32)) (is_index w.form w.first w.second) q in
      let h = leb-true w.number 17 (both (leb w.number 17) (ltb w.amount (2 ^ 32)) x.0).0 in
      let y = index_kept w.form w.first w.second x.1 in
      let same : record_of var ≡ w =
      λ i. record {
        kind = sym k i;
        number = var-kept w.number (omega arith) i;
        amount = w.amount;
        code = w.code;
        start = w.start;
        len = w.len;
        form = y.0 i;
        first = y.1 i;
        second = y.2 i;
      } in
      ap record_of (sym m-is) ∙ same)
      (λ q. let is = rw (k, q) at e in absurd (let z : ◌≡◌ {A = ℕ} 0 1 = cc in omega arith))

  abbrev bared : RecordWords
  bared = bare w.kind w.number w.amount w.code w.start w.len

  without-index : w.form ≡ 0 → w.first ≡ 0 → w.second ≡ 0 → w ≡ bared
  without-index p q r =
      λ i. record {
        kind = w.kind;
        number = w.number;
        amount = w.amount;
        code = w.code;
        start = w.start;
        len = w.len;
        form = p i;
        first = q i;
        second = r i;
      }

  other-words : eqb w.kind 7 ≡ false → record_of m ≡ w
  unfolding command_of all_zero is_used
  other-words n =
      by-test (all_zero (w.form ∷ w.first ∷ w.second ∷ []) && is_used w)
      (λ q.
      let is : ◌≡◌ {A = (Option Command)} (Some (command_in w)) (Some m) = rw (n, q) at e in
      let m-is : command_in w ≡ m = cc in
      let x = both (all_zero (w.form ∷ w.first ∷ w.second ∷ [])) (is_used w) q in
      let y = both (eqb w.form 0) (eqb w.first 0 && (eqb w.second 0 && true)) x.0 in
      let z = both (eqb w.first 0) (eqb w.second 0 && true) y.1 in
      let a = both (eqb w.second 0) true z.1 in
      let u = used bared x.1 in
      let as-bared = without-index (eqb-true w.form 0 y.0) (eqb-true w.first 0 z.0) (eqb-true w.second 0 a.0) in
      ap record_of (sym m-is) ∙ ap (λ (v : RecordWords). record_of (command_in v)) as-bared
      ∙ kinds_kept w.kind u.least u.most w.number w.amount w.code w.start w.len u (eqb-false w.kind 7 n)
      ∙ sym as-bared)
      (λ q. let is = rw (n, q) at e in absurd (let z : ◌≡◌ {A = ℕ} 0 1 = cc in omega arith))

  pub words_back : record_of m ≡ w
  words_back = by-test (eqb w.kind 7) (λ q. var-words (eqb-true w.kind 7 q)) other-words
