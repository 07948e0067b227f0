-- What equal answers that hold a pair say of its parts. Assumes nothing.
use Rattle.std.proofs.Common.{◌≡◌, Some, None, Result, Ok, Err, ap}

pub some-pair : {A B : Type 0} {p q : A × B} → Some p ≡ Some q → p ≡ q
some-pair {p = p} h = ap (λ r. elim r [ Some x ↦ x | None ↦ p ]) h

pub ok_pair : {A E : Type 0} {p q : A} → ◌≡◌ {A = Result A E} (Ok p) (Ok q) → p ≡ q
ok_pair {p = p} h = ap (λ r. elim r [ Ok x ↦ x | Err e ↦ p ]) h

pub err_pair : {A E : Type 0} {p q : E} → ◌≡◌ {A = Result A E} (Err p) (Err q) → p ≡ q
err_pair {p = p} h = ap (λ r. elim r [ Ok x ↦ p | Err e ↦ e ]) h

pub first : {A B : Type 0} {a b : A} {x y : B} → ◌≡◌ {A = A × B} (a, x) (b, y) → a ≡ b
first h = ap (λ p. p.0) h

pub second : {A B : Type 0} {a b : A} {x y : B} → ◌≡◌ {A = A × B} (a, x) (b, y) → x ≡ y
second h = ap (λ p. p.1) h
