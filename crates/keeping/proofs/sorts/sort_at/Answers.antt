-- `keeping::sorts::sort_at` meets its contract: unsound, or the sort of its kind. Assumes nothing.
use Rattle.keeping.proofs.Surveyed.{sound_sort, unsound_at}
use Rattle.keeping.proofs.sorts.sort_at.Goals as goal

pub returns-then-is_sound : goal.returns-then-is_sound
returns-then-is_sound c = sound_sort _ _ c.is_sound.ensures c.if-is_sound.true c.kind.ensures c.sort_of.ensures

pub returns-else-is_sound : goal.returns-else-is_sound
returns-else-is_sound c = unsound_at _ _ c.is_sound.ensures c.if-is_sound.false
