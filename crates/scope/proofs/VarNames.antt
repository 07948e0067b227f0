-- Laws of the list of variable types: its entry at each place, and a step of looking a name up in it.
use Rattle.std.specs.Prelude.{Option, Some, None}
use Prim.Native.Nat.{ℕ, zero, suc, ◌-◌, ◌<◌, ◌≤◌}
use Prim.Native.String.{String}
use mathlib.Core.Path.{◌≡◌, refl, sym, ap, ◌∙◌}
use mathlib.Core.Bool.{Bool, true, false, ◌&&◌}
use mathlib.Core.List.{List, [], ◌∷◌}
use native.Mathlib.Omega.{arith}
use native.Mathlib.Nat.{le_of_suc-le-suc, not-suc-le-zero}
use lib.Dec.{leb}
use lib.ListN.{length, get_or, take, replicate}
use lib.Seq.{take_all, take-append_seam}
use borrow.Author.Tests.{leb-true}
use Rattle.text.specs.Bytes.{bytes, equal}
use Rattle.text.specs.Names.{lookup}
use Rattle.text.proofs.Lists.{both}
use Rattle.std.proofs.lemmas.List.Recursion.{found_at, found_nowhere}
use Rattle.text.proofs.Orders.{small}
use Rattle.scope.specs.Numbers.{var_number, var_order}
use Rattle.scope.specs.Types.{var_names, entry_of, entries_from, var_entries, named_from, var_types, parse_var_type}
use Rattle.scope.specs.declared.VarType.{VarType}
use Rattle.scope.specs.declared.VarName.{VarName}
use Rattle.scope.proofs.Types.{var-order}

-- the name and the type at a place of the list, and the entry that they make
unfoldable pub name_at : ℕ → String
name_at i = get_or var_names i ""

unfoldable pub type_at : ℕ → VarType
type_at i = get_or var_order i VarType.String

unfoldable pub entry_at : ℕ → VarName
entry_at i = entry_of (type_at i) (name_at i)

-- the entry at a place is made of the type and the name there
entry-from : (ks : List VarType) (ns : List String) (i : ℕ) (d : VarName) → i < length ks → length ks ≡ length ns
    → get_or (entries_from ks ns) i d ≡ entry_of (get_or ks i VarType.String) (get_or ns i "")
entry-from [] ns i d h e = absurd (not-suc-le-zero h)
entry-from (k ∷ ks) [] i d h e = absurd (omega arith)
entry-from (k ∷ ks) (n ∷ ns) zero d h e = refl
entry-from (k ∷ ks) (n ∷ ns) (suc i) d h e = entry-from ks ns i d (le_of_suc-le-suc h) (omega arith)

-- what a function reads of the list: THE TABLE'S RULE, once for its eighteen entries
pub listed : (l : List VarName) (i : ℕ) (d : VarName) → l ≡ var_entries → i < 18 → get_or l i d ≡ entry_at i
unfolding entry_at type_at name_at
listed l i d e h = ap (λ (x : List VarName). get_or x i d) e ∙ entry-from var_order var_names i d h refl

named-from : (ks : List VarType) (ns : List String) (i : ℕ) (d : String × (Option VarType)) → i < length ks → length ks ≡ length ns
    → get_or (named_from ks ns) i d ≡ (get_or ns i "", Some (get_or ks i VarType.String))
named-from [] ns i d h e = absurd (not-suc-le-zero h)
named-from (k ∷ ks) [] i d h e = absurd (omega arith)
named-from (k ∷ ks) (n ∷ ns) zero d h e = refl
named-from (k ∷ ks) (n ∷ ns) (suc i) d h e = named-from ks ns i d (le_of_suc-le-suc h) (omega arith)

-- ---- looking a name up: none before place i is the text
abbrev pub NotBefore : List ℕ → ℕ → Type 0
NotBefore s i = (k : ℕ) → k < i → equal s (bytes (name_at k)) ≡ false

-- a place of the table that a text is looked up in
row : String × (Option VarType)
row = ("", None)

there : (k : ℕ) → k < 18 → get_or var_types k row ≡ (name_at k, Some (type_at k))
unfolding name_at type_at
there k h = named-from var_order var_names k row h refl

missed : (s : List ℕ) (i : ℕ) → i ≤ 18 → NotBefore s i → (k : ℕ) → k < i → equal s (bytes (get_or var_types k row).0) ≡ false
missed s i l q k h = rw (there k (omega arith)) (q k h)

pub sought-found : (s : List ℕ) (i : ℕ) → NotBefore s i → i < 18 → equal s (bytes (name_at i)) ≡ true → Some (entry_at i).var_type ≡ parse_var_type s
unfolding parse_var_type entry_at lookup
sought-found s i q h t =
    sym (found_at (λ l. lookup l None s) (λ r. equal s (bytes r.0)) (λ r. r.1) None refl (λ r l. refl) var_types i row h (missed s i (omega arith) q) (rw (there i h) t)
    ∙ ap (λ (r : String × (Option VarType)). r.1) (there i h))

pub sought-none : (s : List ℕ) → NotBefore s 18 → None ≡ parse_var_type s
unfolding parse_var_type lookup
sought-none s q =
    sym (found_nowhere (λ l. lookup l None s) (λ r. equal s (bytes r.0)) (λ r. r.1) None refl (λ r l. refl) var_types row (missed s 18 (omega arith) q))

-- ---- the bytes of an entry
pub entry-text : (i : ℕ) → take (entry_at i).len (entry_at i).name ≡ bytes (name_at i)
unfolding entry_at
entry-text i = take-append_seam (bytes (name_at i)) (replicate (9 - length (bytes (name_at i))) 0)

-- what a text that is compared with an entry's name is compared with
pub named_there : (s : List ℕ) (l : List VarName) (i : ℕ) (d : VarName) → l ≡ var_entries → i < 18
    → {t : Bool} → equal s (take (get_or l i d).len (get_or l i d).name) ≡ t → equal s (bytes (name_at i)) ≡ t
named_there s l i d e h q = ap (equal s) (sym (ap (λ (x : VarName). take x.len x.name) (listed l i d e h) ∙ entry-text i)) ∙ q

-- every type has a place
pub number-below : (k : VarType) → var_number k < 18
number-below k = small var-order k

-- one test that computes over the whole list: no name has more than nine bytes
shorts : List String → Bool
shorts [] = true
shorts (n ∷ ns) = leb (length (bytes n)) 9 && shorts ns

short-from : (ns : List String) (i : ℕ) → shorts ns ≡ true → length (bytes (get_or ns i "")) ≤ 9
unfolding shorts
short-from [] i e = omega arith
short-from (n ∷ ns) zero e = leb-true _ _ (both (leb (length (bytes n)) 9) (shorts ns) e).0
short-from (n ∷ ns) (suc i) e = short-from ns i (both (leb (length (bytes n)) 9) (shorts ns) e).1

name-short : (i : ℕ) → length (bytes (name_at i)) ≤ 9
unfolding name_at shorts
name-short i = short-from var_names i refl

pub spelt : (i : ℕ) → take 32 (take (entry_at i).len (entry_at i).name) ≡ bytes (get_or var_names i "")
unfolding name_at
spelt i = ap (take 32) (entry-text i) ∙ take_all 32 (bytes (name_at i)) (let h = name-short i in omega (arith, h))
