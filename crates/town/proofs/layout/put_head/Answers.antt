use Rattle.town.proofs.Changing.{head_written}
use Rattle.town.proofs.layout.put_head.Goals as goal

pub returns : goal.returns
returns c =
    let l = c.args.limits in
    rw (c.from.ensures, c.from-2.ensures) (head_written _ _ (record { some_corner = l.some; few_corners = l.few; few_streets = l.short }) c.requires)
