use Rattle.std.proofs.Common.{◌+◌, ap, ◌∙◌, arith, rules}
use Rattle.town.specs.Layout.{starts_from, lists_from}
use Rattle.town.proofs.Holding.{list_fits, list_read}
use Rattle.town.proofs.reading.TownRef.list_at.Goals as goal

pub slice_bounds-result-count : goal.slice_bounds-result-count
slice_bounds-result-count c =
    let e = c.limits-limits.ensures in
    (list_fits c.args.self.now.sound c.args.c c.requires (omega (arith, ap starts_from e)) (c.lists_from-lists.ensures ∙ ap lists_from e)).0

pub slice_bounds-result-start : goal.slice_bounds-result-start
slice_bounds-result-start c =
    let e = c.limits-limits.ensures in
    let fits = list_fits c.args.self.now.sound c.args.c {at = c.starts_from.result + c.from.result} c.requires (omega (arith, ap starts_from e)) (c.lists_from-lists.ensures ∙ ap lists_from e) in
    search (rules, fits)

pub slice_bounds-result-end : goal.slice_bounds-result-end
slice_bounds-result-end c =
    let e = c.limits-limits.ensures in
    let fits = list_fits c.args.self.now.sound c.args.c {at = c.starts_from.result + c.from.result} c.requires (omega (arith, ap starts_from e)) (c.lists_from-lists.ensures ∙ ap lists_from e) in
    search (rules, fits)

pub returns : goal.returns
returns c =
    let e = c.limits-limits.ensures in
    list_read c.args.self.now.sound c.args.c c.requires (omega (arith, ap starts_from e)) (c.lists_from-lists.ensures ∙ ap lists_from e)
