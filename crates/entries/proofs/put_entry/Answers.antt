-- `entries::put_entry` meets its contract: one store a word.
use lib.Seq.{sets-eq}
use native.Mathlib.Numerals.{towards_suc}
use Rattle.entries.specs.Entries.{words}
use Rattle.entries.proofs.put_entry.Goals as goal

pub returns : goal.returns
returns c = let a = c.args in simp towards_suc (simp towards_suc at (sets-eq (words a.e) a.list.now a.at c.requires))
