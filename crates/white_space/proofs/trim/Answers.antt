-- Goals of `white_space::trim` that the search leaves.
use Rattle.white_space.proofs.Trimming.{start-within}
use Rattle.white_space.proofs.trim.Goals as goal

pub slice_bounds-kept-count : goal.slice_bounds-kept-count
slice_bounds-kept-count c = start-within _ _ c.leading-start.ensures

pub slice_bounds-kept-start : goal.slice_bounds-kept-start
slice_bounds-kept-start c = start-within _ _ c.leading-start.ensures
