-- The ways of `number_in`: no digit, too large, no room, a bad byte behind, and the number itself.
-- n digits stand at the front of w and say v, or more than is counted.
use mathlib.Core.Path.{◌≡◌, sym, ◌∙◌}
use mathlib.Core.List.{List}
use Prim.Native.Nat.{ℕ, ◌+◌, ◌≤◌, ◌<◌, min}
use native.Mathlib.Omega.{arith}
use borrow.Author.Tests.{eq-eqb, ne_eqb, lt-ltb, le-ltb}
use lib.Seq.{length-take-le}
use lib.ListN.{length, take}
use Rattle.sheet.specs.Number.{value_of, AllDigits, most_digits, digits_in, number_of}
use Rattle.sheet.proofs.Numbers.{run_digits, take_in, in_within}
use Rattle.reader.specs.Part as part
use Rattle.reader.specs.Parts.{part_by, itself}

module _ (w : List ℕ) (room at : ℕ) {n : ℕ} (counted : n ≡ length (digits_in w)) where
  -- n bytes are there
  pub front_taken : n ≡ length (take n w)
  front_taken = sym (length-take-le n w (rw counted (in_within w)))

  -- and they are digits
  pub front_digits : AllDigits (take n w)
  unfolding digits_in
  front_digits = rw (counted, take_in w) (run_digits (take (most_digits w) w))

  -- 9 without a digit
  pub no_digit : n ≡ 0 → part.Refused 9 at ≡ part_by itself (at + length w) (number_of room at w)
  unfolding number_of part_by
  no_digit z = rw (eq-eqb (length (digits_in w)) 0 (sym counted ∙ z))

  module _ (some : n ≡ 0 → ⊥) {v : ℕ} (val : v ≡ min 65536 (value_of (take n w))) where
    -- the digits say v, or more than is counted
    said : v ≡ min 65536 (value_of (digits_in w))
    said = val ∙ rw (counted, take_in w)

    -- there is a digit
    is_some : length (digits_in w) ≡ 0 → ⊥
    is_some z = some (counted ∙ z)

    -- 10 above 65,535
    pub too_large : 65535 < v → part.Refused 10 at ≡ part_by itself (at + length w) (number_of room at w)
    unfolding number_of part_by
    too_large h = rw (ne_eqb _ _ is_some, lt-ltb 65535 (value_of (digits_in w)) (omega (arith, said)))

    module _ (small : v ≤ 65535) where
      -- they say v
      is_value : v ≡ value_of (digits_in w)
      is_value = omega (arith, said)

      -- and no more than 65,535
      is_small : value_of (digits_in w) ≤ 65535
      is_small = rw (← is_value) small

      -- 11 without room
      pub no_room : room ≤ v → part.Refused 11 at ≡ part_by itself (at + length w) (number_of room at w)
      unfolding number_of part_by
      no_room h = rw (ne_eqb _ _ is_some, le-ltb 65535 _ is_small, le-ltb (value_of (digits_in w)) room (rw is_value at h))

      module _ (fits : v < room) where
        -- there is room
        has_room : value_of (digits_in w) < room
        has_room = rw is_value at fits

        -- 9 at the first byte behind the digits
        pub bad_behind : n < length w → part.Refused 9 (at + n) ≡ part_by itself (at + length w) (number_of room at w)
        unfolding number_of part_by
        bad_behind h =
            rw (ne_eqb _ _ is_some, le-ltb 65535 _ is_small, lt-ltb _ room has_room, lt-ltb _ _ (rw counted at h), counted)

        -- else the number
        pub number_read : length w ≤ n → part.Read v (at + length w) ≡ part_by itself (at + length w) (number_of room at w)
        unfolding number_of part_by
        number_read h =
            rw (ne_eqb _ _ is_some, le-ltb 65535 _ is_small, lt-ltb _ room has_room, le-ltb _ _ (rw counted at h), ← is_value)

-- all ways of `number_in`
pub ruleset judged = (front_taken, front_digits, no_digit, too_large, no_room, bad_behind, number_read)
