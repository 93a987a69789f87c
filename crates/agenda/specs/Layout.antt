-- How much of the work area is in use.
use Rattle.std.specs.Prelude.{ℕ}

-- its words: 257 with what is left of the contexts, 257 with their sizes, 512 nodes, 4097 starts of buckets and 4096 words of buckets
abbrev pub agenda_room : ℕ
agenda_room = 9219
