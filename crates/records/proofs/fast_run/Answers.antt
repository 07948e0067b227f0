-- Goals of `records::fast_run` that the search leaves.
use Rattle.records.proofs.Taken.{runs-next}
use Rattle.records.proofs.fast_run.Goals as goal
use Rattle.records.proofs.fast_run.Goals.{After-parse_short, In-Scalar, In-Time, in-Scalar, in-Time}

pub loop-at-preserved : goal.loop-at-preserved
loop-at-preserved c =
    let next = runs-next _ _ _ _ _ _ _ _ c.loop-at.invariant c.loop-at-test.true in
    (elim c.match-parse_short.branch [
      | in-Time w ↦
          let q = rw w.in-Time.is at c.parse_short.ensures in
          rw (w.cur-is, w.word_read-cur.ensures, w.records-is, w.put_at.ensures, w.timestamp_words.ensures) (next _ _ q.0 q.1)
      | in-Scalar w ↦
          let q = rw w.in-Scalar.is at c.parse_short.ensures in
          rw (w.cur-is, w.word_read-cur-in-Scalar.ensures, w.records-is, w.put_at-in-Scalar.ensures, w.scalar_words.ensures, w.number_at-v.ensures, q.0.means)
          (next _ _ q.0.change q.1)
    ])
