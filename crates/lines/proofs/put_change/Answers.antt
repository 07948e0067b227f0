-- Goals of `lines::put_change` that the search leaves.
use Rattle.std.specs.Prelude.{Option}
use mathlib.Core.Path.{◌≡◌, refl}
use mathlib.Core.List.{List}
use Prim.Native.Nat.{ℕ}
use Rattle.text.proofs.Rows.{spelled_text}
use Rattle.change.specs.declared.ChangeKind.{ChangeKind}
use Rattle.number.specs.Decimal.{decimal_of}
use Rattle.lines.specs.Lines.{time_text, value_text, change_line}
use Rattle.lines.proofs.Laying.{Laid, line_of, wide_is, laid-nothing, laid-change}
use Rattle.lines.proofs.put_change.Goals as goal
use Rattle.lines.proofs.put_change.Goals.{After-as_bytes-digits}

-- whatever the kind: the line of the words that stand at these places is the change's
line-is : (c : After-as_bytes-digits) (kind : ChangeKind) {word : List ℕ} → c.in-Is.kind ≡ kind
    → word ≡ value_text c.args.width kind c.part-value.result.now → {r : Option ℕ} {left : List ℕ}
    → Laid (line_of c.args.name.now c.as_bytes-time.result.now c.as_bytes-digits.result.now word) c.args.out.now r left
    → Laid (change_line c.args.input.now c.args.name.now c.args.width c.args.change) c.args.out.now r left
line-is c kind q w e =
    let x = c.args in
    laid-change x.input.now x.name.now x.width c.in-Is.is (spelled_text (time_text c.in-Is.since) c.time_text-time.ensures c.as_bytes-time.ensures)
    (spelled_text (decimal_of c.in-Is.line) c.decimal-digits.ensures c.as_bytes-digits.ensures) c.part-value.ensures kind q w x.out.now e

pub returns-in-None : goal.returns-in-None
returns-in-None c = rw c.in-None.is (laid-nothing c.args.out.now)

pub returns-in-Scalar : goal.returns-in-Scalar
returns-in-Scalar c = line-is (goal.at.returns-in-Scalar c).After-as_bytes-digits ChangeKind.Scalar c.in-Scalar.is (wide_is 1 c.part-value.result.now c.missing.ensures) c.lay_wide.ensures

pub returns-in-Vector : goal.returns-in-Vector
returns-in-Vector c =
    line-is (goal.at.returns-in-Vector c).After-as_bytes-digits ChangeKind.Vector c.in-Vector.is (wide_is c.args.width c.part-value.result.now c.missing-in-Vector.ensures)
    c.lay_wide-in-Vector.ensures

pub returns-in-Real : goal.returns-in-Real
returns-in-Real c = line-is (goal.at.returns-in-Real c).After-as_bytes-digits ChangeKind.Real c.in-Real.is refl c.lay_text.ensures

pub returns-in-String : goal.returns-in-String
returns-in-String c = line-is (goal.at.returns-in-String c).After-as_bytes-digits ChangeKind.String c.in-String.is refl c.lay_text-in-String.ensures
