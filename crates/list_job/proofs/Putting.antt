-- A line that is put whole or not at all, as lines that have room.
use Rattle.command.specs.Refusals.{Ended}
use Rattle.std.specs.Prelude.{Option, Some, None, Ok, Err}
use Rattle.rows.specs.declared.RowNumber.{RowNumber}
use Prim.Native.Nat.{ℕ, ◌+◌, ◌≤◌, ◌<◌}
use mathlib.Core.Path.{◌≡◌, refl, sym, ap, ◌∙◌}
use mathlib.Core.Bool.{Bool, true, false}
use mathlib.Core.List.{List, [], ◌∷◌, append-nil}
use native.Mathlib.Omega.{arith}
use borrow.Author.Tests.{le-leb, lt-leb, lt-ltb, le-ltb, ne_eqb}
use lib.Dec.{leb}
use lib.ListN.{length}
use Rattle.command.specs.Refusals.{number_of}
use Rattle.command.specs.declared.Refusal.{Refusal}
use Rattle.header.specs.Header.{header_of, answer_of as header_answer}
use Rattle.rows.specs.Rows.{row_at, filled as header_filled}
use Rattle.header.specs.declared.HeaderAnswer.{HeaderAnswer}
use Rattle.rows.specs.declared.Row.{Row}
use Rattle.lines.specs.Lines.{taken, fitting, filled, full_line, refused_line, put, answer_of}
use Rattle.lines.specs.declared.Lines.{Lines}
use Rattle.parser.specs.Next.{fresh as fresh_cursor}
use Rattle.scope.specs.declared.Var.{Var}
use Rattle.text.specs.Texts.{part}
use Rattle.token.specs.declared.Cursor.{Cursor}
use Rattle.text.specs.Texts.{put_answer, put_bytes}
use Rattle.text.proofs.Lists.{by-test}
use Rattle.list_job.specs.Whole.{met_lines, is_full, end_lines, long_lines}
use Rattle.list_job.specs.Turns.{Does, Begins, Lists, Prints, Puts, fit, count_of, final, row_on, begin_turn, next_row, met_row, row_then, row_turn, ahead, lines_turn}
use Rattle.list_job.specs.declared.Place.{Place}
use Rattle.list_job.specs.declared.Printing.{Printing}
use Rattle.list_job.specs.declared.State.{State}
use Rattle.list_job.specs.declared.Turn.{Turn}

pub puts_none : (out : List ℕ) → Puts 0 out [] out
unfolding fitting
puts_none out = (refl, refl)

pub puts-line : {r : Option ℕ} {out : List ℕ} {n : ℕ} (l : List ℕ) (out₀ : List ℕ) → n ≡ count_of r → r ≡ put_answer l out₀ → out ≡ put_bytes l out₀ → Puts n out (l ∷ []) out₀
unfolding fitting put_answer put_bytes
puts-line l out₀ e p q =
    by-test (leb (length l) (length out₀))
    (λ t. (e ∙ ap count_of p ∙ rw (t, append-nil l), q ∙ rw (t, append-nil l)))
    (λ t. (e ∙ ap count_of p ∙ rw t, q ∙ rw t))

abbrev Laid : List ℕ → List ℕ → Option ℕ → List ℕ → Type 0
Laid l out₀ r out = (r ≡ put_answer l out₀) × (out ≡ put_bytes l out₀)

-- ---- a refusal that was met
pub met-none : (m : Option (Refusal × ℕ)) (out : List ℕ) → m ≡ None → Puts 0 out (met_lines m) out
met-none m out q = rw q (puts_none out)

pub met-line : {r : Option ℕ} {out : List ℕ} {k n l : ℕ} {e : Refusal} (m : Option (Refusal × ℕ)) (out₀ : List ℕ) → m ≡ Some (e, l) → n ≡ number_of e → k ≡ count_of r
    → Laid (refused_line n l) out₀ r out → Puts k out (met_lines m) out₀
met-line {r} {out} {k} {n} {l} {e} m out₀ q a b d =
    let d' : Laid (refused_line (number_of e) l) out₀ r out = rw a at d in
    rw q (puts-line (refused_line (number_of e) l) out₀ b d'.0 d'.1)

pub end_whole : (name : List ℕ) (x : Ended) (out : List ℕ) → x ≡ (Ok tt) → Puts 0 out (end_lines name x) out
end_whole name x out q = rw q (puts_none out)

pub end-other : {e : Refusal} {l : ℕ} {b : Bool} (name : List ℕ) (x : Ended) (out : List ℕ) → x ≡ Err (e, l) → b ≡ is_full e → b ≡ false
    → Puts 0 out (end_lines name x) out
end-other name x out q a b = rw (q, sym a ∙ b) (puts_none out)

pub end-full : {r : Option ℕ} {out : List ℕ} {k : ℕ} {e : Refusal} {l : ℕ} {b : Bool} (name : List ℕ) (x : Ended) (out₀ : List ℕ) → x ≡ Err (e, l)
    → b ≡ is_full e → b ≡ true → k ≡ count_of r → Laid (full_line name) out₀ r out → Puts k out (end_lines name x) out₀
end-full name x out₀ q a b g d = rw (q, sym a ∙ b) (puts-line (full_line name) out₀ g d.0 d.1)

-- ---- turns
does-final : {r : Turn} {n : ℕ} {out : List ℕ} (w : Bool) (ls : List (List ℕ)) (rows changes out₀ : List ℕ) → r ≡ record { count = n; next = State.Finished w }
    → Puts n out ls out₀ → Does r rows changes out out₀ (final w (fit (length out₀) ls) rows changes)
does-final w ls rows changes out₀ e p =
    record { count = ap (λ (x : Turn). x.count) e ∙ p.0; next = ap (λ (x : Turn). x.next) e; table = refl; list = refl; bytes = p.1 }

pub begin-long : {r : Turn} {n : ℕ} {out : List ℕ} (s rows out₀ : List ℕ) → taken < length s → Puts n out long_lines out₀
    → r ≡ record { count = n; next = State.Finished false } → Begins r rows out s rows out₀
unfolding begin_turn
begin-long s rows out₀ h p e changes = rw (lt-ltb taken (length s) h) (does-final false long_lines rows changes out₀ e p)

module _ (s rows₀ out₀ : List ℕ) (h : length s ≤ taken) {a : HeaderAnswer} {rows : List ℕ} {c : Cursor} (f : c ≡ fresh_cursor)
    (q : a ≡ header_answer (header_of s c rows₀)) (w : rows ≡ header_filled (header_of s c rows₀).rows rows₀) where
  ended : a.ended ≡ (header_of s fresh_cursor rows₀).ended
  ended = ap (λ (x : HeaderAnswer). x.ended) q ∙ ap (λ (x : Cursor). (header_of s x rows₀).ended) f

  pub begin-whole : a.ended ≡ (Ok tt)
      → Begins (record { count = 0; next = State.Row (record { cursor = a.cursor; count = a.count; row = 0; met = None; whole = true }) }) rows out₀ s rows₀ out₀
  unfolding begin_turn
  begin-whole g changes =
      rw (le-ltb taken (length s) h, sym ended ∙ g) (rw (q, w, f) (record { count = refl; next = refl; table = refl; list = refl; bytes = refl }))

  pub begin-refused : {e : Refusal} {l n : ℕ} {out : List ℕ} {r : Turn} → a.ended ≡ Err (e, l) → Puts n out (met_lines (Some (e, l))) out₀
      → r ≡ record { count = n; next = State.Finished false } → Begins r rows out s rows₀ out₀
  unfolding begin_turn
  begin-refused {e} {l} {n} {out} {r} g p z changes =
      rw (le-ltb taken (length s) h, sym ended ∙ g) (rw (w, f) (does-final false (met_lines (Some (e, l))) (header_filled (header_of s fresh_cursor rows₀).rows rows₀) changes out₀ z p))

module _ (s rows changes₀ out₀ : List ℕ) (p : Place) where
  pub row-end : {r : Turn} {n : ℕ} {out : List ℕ} → p.count ≤ p.row → Puts n out (met_lines p.met) out₀ → r ≡ record { count = n; next = State.Finished p.whole }
      → Does r rows changes₀ out out₀ (row_turn s (length out₀) rows changes₀ p)
  unfolding row_turn
  row-end h z e = rw (le-leb p.count p.row h) (does-final p.whole (met_lines p.met) rows changes₀ out₀ e z)

  pub row-var : {x : Row} {q : Option RowNumber} {v : Var} {r : Turn} {changes : List ℕ} → p.row < p.count → x ≡ row_at rows p.row → x ≡ Row.Var q v
      → Lists r changes s changes₀ (next_row p) v → Does r rows changes out₀ out₀ (row_turn s (length out₀) rows changes₀ p)
  unfolding row_turn
  row-var h y z g = rw (lt-leb p.count p.row h, sym y ∙ z) (g rows out₀)

  pub row-pass : {x : Row} (w : Row) {r : Turn} → p.row < p.count → x ≡ row_at rows p.row → x ≡ w
      → row_then s rows changes₀ (next_row p) w ≡ row_on (next_row p) rows changes₀ → r ≡ record { count = 0; next = State.Row (next_row p) }
      → Does r rows changes₀ out₀ out₀ (row_turn s (length out₀) rows changes₀ p)
  unfolding row_turn
  row-pass w h y z g e = rw (lt-leb p.count p.row h, sym y ∙ z, g, e) (record { count = refl; next = refl; table = refl; list = refl; bytes = refl })

no_lines : (ls : List (List ℕ)) → length ls ≤ 0 → ls ≡ []
no_lines [] h = refl
no_lines (l ∷ ls) h = absurd (omega arith)

module _ (s changes out₀ : List ℕ) (p : Place) (l : Printing) {name : List ℕ} (f : name ≡ part s l.name) where
  module _ (h : l.next < l.count) {n : Lines} {out : List ℕ} (a : n ≡ answer_of l.next (put s name l.width changes l.next l.count out₀))
      (b : out ≡ filled (put s name l.width changes l.next l.count out₀) out₀) where
    abbrev ls : List (List ℕ)
    ls = fit (length out₀) (ahead s changes l)

    same : put s name l.width changes l.next l.count out₀ ≡ ls
    unfolding put
    same = rw f

    told : n ≡ answer_of l.next ls
    told = a ∙ ap (answer_of l.next) same

    pub lines-stop : {r : Turn} → n.next ≤ l.next → r ≡ record { count = 0; next = State.Finished false } → Prints r out s changes out₀ p l
    unfolding lines_turn
    lines-stop g e rows =
        let t : n.next ≡ l.next + length ls = ap (λ (x : Lines). x.next) told in
        let z : ls ≡ [] = no_lines ls (omega arith) in
        let y : out ≡ out₀ = b ∙ ap (λ (x : List (List ℕ)). filled x out₀) (same ∙ z) in
        rw (lt-ltb l.next l.count h, z, e, y) (record { count = refl; next = refl; table = refl; list = refl; bytes = refl })

    pub lines-some : l.next < n.next
        → Prints (record { count = n.count; next = State.Lines p (record { name = l.name; width = l.width; next = n.next; count = l.count; ended = l.ended }) }) out s changes out₀ p l
    unfolding lines_turn
    lines-some g rows =
        let t : n.next ≡ l.next + length ls = ap (λ (x : Lines). x.next) told in
        let z : length ls ≡ 0 → ⊥ = λ w. omega arith in
        rw (lt-ltb l.next l.count h, ne_eqb (length ls) 0 z) (rw (told, b, same) (record { count = refl; next = refl; table = refl; list = refl; bytes = refl }))

  pub lines_end : {n : ℕ} {out : List ℕ} {q : Place} → l.count ≤ l.next → Puts n out (end_lines name l.ended) out₀ → q ≡ met_row p l.ended
      → Prints (record { count = n; next = State.Row q }) out s changes out₀ p l
  unfolding lines_turn
  lines_end {n} {out} {q} h z e rows =
      let y : Puts n out (end_lines (part s l.name) l.ended) out₀ = rw f at z in
      rw (le-ltb l.next l.count h, e) (record { count = y.0; next = refl; table = refl; list = refl; bytes = y.1 })
