-- A piece of the sheet, as the contracts speak of it: what a reading of its bytes says, which begins at its place.
use Rattle.std.specs.Prelude.{List, ℕ, ◌+◌, length}
use Rattle.sheet.specs.Read.{Read}
use Rattle.reader.specs.declared.piece.Piece.{Piece}
use Rattle.reader.specs.Part.{Part}
use Rattle.reader.specs.Parts.{part_by}

-- the reading of a piece
abbrev pub piece_read : {A : Type 0} → (ℕ → List ℕ → Read A) → Piece → Read A
piece_read read p = read p.at p.bytes.now

-- that reading, whose value is counted by f, with the place behind the piece
abbrev pub piece_by : {A : Type 0} → (A → ℕ) → (ℕ → List ℕ → Read A) → Piece → Part
piece_by f read p = part_by f (p.at + length p.bytes.now) (piece_read read p)
