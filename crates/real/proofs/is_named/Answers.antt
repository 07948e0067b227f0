-- Goals of `real::is_named` that the search leaves.
use mathlib.Core.Path.{refl, sym, ◌∙◌}
use mathlib.Core.Bool.{false≢true}
use Rattle.text.specs.Bytes.{bytes}
use Rattle.real.specs.Real.{is_named}
use Rattle.real.proofs.Reals.{is_word}
use Rattle.real.proofs.is_named.Goals as goal
use Rattle.real.proofs.is_named.Goals.{then-eq_ignore_ascii_case, else-eq_ignore_ascii_case}

pub returns-then-eq_ignore_ascii_case-2 : goal.returns-then-eq_ignore_ascii_case-2
unfolding is_named
returns-then-eq_ignore_ascii_case-2 c =
    let yes = c.if-eq_ignore_ascii_case-2.true in
    let inf = is_word c.args.s.now (bytes "inf") _ refl c.eq_ignore_ascii_case.ensures.test in
    elim c.if-eq_ignore_ascii_case.branch [
      | then-eq_ignore_ascii_case w ↦ rw (sym inf ∙ w.if-eq_ignore_ascii_case.true) yes
      | else-eq_ignore_ascii_case w ↦
          let infinity = is_word c.args.s.now (bytes "infinity") _ refl w.eq_ignore_ascii_case-else-eq_ignore_ascii_case.ensures.test in
          rw (sym inf ∙ w.if-eq_ignore_ascii_case.false, sym infinity ∙ (sym w.value-is ∙ yes)) yes
    ]

pub returns-else-eq_ignore_ascii_case-2 : goal.returns-else-eq_ignore_ascii_case-2
unfolding is_named
returns-else-eq_ignore_ascii_case-2 c =
    let no = c.if-eq_ignore_ascii_case-2.false in
    let inf = is_word c.args.s.now (bytes "inf") _ refl c.eq_ignore_ascii_case.ensures.test in
    let nan = is_word c.args.s.now (bytes "nan") _ refl c.eq_ignore_ascii_case-else-eq_ignore_ascii_case-2.ensures.test in
    elim c.if-eq_ignore_ascii_case.branch [
      | then-eq_ignore_ascii_case w ↦ absurd (false≢true (sym no ∙ (w.value-is ∙ w.if-eq_ignore_ascii_case.true)))
      | else-eq_ignore_ascii_case w ↦
          let infinity = is_word c.args.s.now (bytes "infinity") _ refl w.eq_ignore_ascii_case-else-eq_ignore_ascii_case.ensures.test in
          rw (sym inf ∙ w.if-eq_ignore_ascii_case.false, sym infinity ∙ (sym w.value-is ∙ no)) nan
    ]
