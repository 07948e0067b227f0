-- Goals of `list_calls::list_on` that the search leaves.
use mathlib.Core.Path.{sym, ◌∙◌}
use Rattle.list_calls.specs.Listings.{list_on_call}
use Rattle.vcd_state.proofs.Taken.{cursor-four}
use Rattle.change.proofs.Table.{since-two}
use Rattle.list_calls.proofs.list_on.Goals as goal

pub put_cursor-requires : goal.put_cursor-requires
put_cursor-requires c = cursor-four _ c.cursor_of.ensures c.in-Some.is

pub put_since-requires : goal.put_since-requires
put_since-requires c = since-two _ c.since_in.ensures c.in-Some-since_in.is

pub returns-in-None : goal.returns-in-None
unfolding list_on_call
returns-in-None c =
    record {
      status = rw (sym c.cursor_of.ensures ∙ c.in-None.is);
      cursor = rw (sym c.cursor_of.ensures ∙ c.in-None.is);
      since = rw (sym c.cursor_of.ensures ∙ c.in-None.is);
      rows = rw (sym c.cursor_of.ensures ∙ c.in-None.is);
      count = rw (sym c.cursor_of.ensures ∙ c.in-None.is);
    }

pub returns-in-None-since_in : goal.returns-in-None-since_in
unfolding list_on_call
returns-in-None-since_in c =
    record {
      status = rw (sym c.cursor_of.ensures ∙ c.in-Some.is, sym c.since_in.ensures ∙ c.in-None-since_in.is);
      cursor = rw (sym c.cursor_of.ensures ∙ c.in-Some.is, sym c.since_in.ensures ∙ c.in-None-since_in.is);
      since = rw (sym c.cursor_of.ensures ∙ c.in-Some.is, sym c.since_in.ensures ∙ c.in-None-since_in.is);
      rows = rw (sym c.cursor_of.ensures ∙ c.in-Some.is, sym c.since_in.ensures ∙ c.in-None-since_in.is);
      count = rw (sym c.cursor_of.ensures ∙ c.in-Some.is, sym c.since_in.ensures ∙ c.in-None-since_in.is);
    }

pub returns-in-Some-since_in : goal.returns-in-Some-since_in
unfolding list_on_call
returns-in-Some-since_in c =
    let a = c.list_on-a.ensures in
    record {
      status = rw (sym c.cursor_of.ensures ∙ c.in-Some.is, sym c.since_in.ensures ∙ c.in-Some-since_in.is, c.status.ensures, a.answer);
      cursor = rw (sym c.cursor_of.ensures ∙ c.in-Some.is, sym c.since_in.ensures ∙ c.in-Some-since_in.is, c.put_cursor.ensures, a.answer);
      since = rw (sym c.cursor_of.ensures ∙ c.in-Some.is, sym c.since_in.ensures ∙ c.in-Some-since_in.is, c.put_since.ensures, a.answer);
      rows = rw (sym c.cursor_of.ensures ∙ c.in-Some.is, sym c.since_in.ensures ∙ c.in-Some-since_in.is) a.table;
      count = rw (sym c.cursor_of.ensures ∙ c.in-Some.is, sym c.since_in.ensures ∙ c.in-Some-since_in.is, a.answer);
    }
