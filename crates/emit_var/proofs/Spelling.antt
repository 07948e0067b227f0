-- Short texts by value: an index with a space before it. Assumes nothing.
use Prim.Native.Nat.{ℕ, ◌≤◌}
use mathlib.Core.Path.{◌≡◌, ap, ◌∙◌}
use mathlib.Core.List.{List, ◌++◌}
use native.Mathlib.Omega.{arith}
use lib.ListN.{length, take}
use lib.Seq.{take_all}
use Rattle.scope.specs.Index.{index_text}
use Rattle.scope.specs.declared.ReferenceIndex.{ReferenceIndex}
use Rattle.scope.specs.Index.{SizedIndex}
use Rattle.scope.proofs.Indexes.{index-length}
use Rattle.text.specs.Bytes.{bytes}
use Rattle.text.specs.Texts.{spelled, text_in}
use Rattle.text.specs.declared.Spelled.{Spelled}
use Rattle.text.proofs.Rows.{text_in_lem}

pub spaced-text : {a r : Spelled} (s : Spelled) → a ≡ spelled (bytes " ") → r ≡ spelled (take 32 (text_in a ++ text_in s))
    → r ≡ spelled (take 32 (bytes " " ++ text_in s))
spaced-text s e q = q ∙ ap (λ (l : List ℕ). spelled (take 32 (l ++ text_in s))) (ap text_in e ∙ text_in_lem (bytes " "))

pub spaced-index : (x : ReferenceIndex) → SizedIndex x → (s : Spelled) {r : Spelled} → s ≡ spelled (index_text x)
    → r ≡ spelled (take 32 (bytes " " ++ text_in s)) → r ≡ spelled (bytes " " ++ index_text x)
spaced-index x f s e q =
    let l : length (bytes " " ++ index_text x) ≤ 32 = omega (arith, index-length x f) in
    q ∙ ap (λ (l : List ℕ). spelled (take 32 (bytes " " ++ l))) (ap text_in e ∙ text_in_lem (index_text x))
    ∙ ap spelled (take_all 32 (bytes " " ++ index_text x) l)
