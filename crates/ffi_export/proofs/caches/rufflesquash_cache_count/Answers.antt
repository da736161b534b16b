use mathlib.Core.Path.{ap, ◌∙◌}
use Rattle.packed_relations.specs.Words.{count_reply}
use Rattle.ffi_export.proofs.caches.rufflesquash_cache_count.Goals as goal

pub returns : goal.returns
returns c = c.count_reply-reply.ensures ∙ ap count_reply c.columns_held.ensures
