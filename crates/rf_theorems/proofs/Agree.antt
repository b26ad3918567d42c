-- Two runs that agree on what stands in the slot, on the arguments and on the replies agree on everything. Assumes nothing.
use mathlib.Core.Path.{sym, ap, ◌∙◌}
use Rattle.bus.specs.declared.Cursor.{Cursor}
use Rattle.rf_theorems.specs.Agree.{RunsAgree}

pub agree : RunsAgree
agree A m rs l l' k k' c c' d d' n t n₂ t₂ a b x y s v =
    record {
      ans = x.ans ∙ rw (s, v) (sym y.ans);
      taken = ap (λ (z : Cursor). z.taken) x.next ∙ rw (s, v) (sym (ap (λ (z : Cursor). z.taken) y.next));
      rows = (m rs c.slot c.taken).rows;
      left = x.log;
      right = rw (s, v) y.log;
    }
