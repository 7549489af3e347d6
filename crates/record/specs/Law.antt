-- What holds of a record beside the definitions of its writer and its reader, as records with a field for each sentence. Assumes nothing.
use Rattle.std.specs.Prelude.{◌≡◌, List, ◌++◌, ℕ, ◌+◌, ◌*◌, ◌≤◌, length, take, drop, Float, Ok}
use Rattle.inscribed.specs.Store.{width, slots, circles_of}
use Rattle.inscribed.specs.declared.Inscribed.{Inscribed}
use Rattle.record.specs.Record.{record_of, standing_bits, write_record, read_record, store_after}

-- the bytes of the longest record
abbrev pub most_record : ℕ
most_record = 75778

-- Of the record that is written of `count` circles in use of a store, and of another store with as many slots, into which it is read.
pub record WrittenLaw (ns : List Float) (count : ℕ) (bytes : List ℕ) (other : List Float) : Type 0 where
  -- the circles that are read are those that were written
  pub circles : read_record bytes (slots other) ≡ Ok (circles_of ns count)
  -- the other store then begins with their numbers, each with the same bits, and every number behind them is as it was
  pub store : store_after (read_record bytes (slots other)) other ≡ take (width * count) ns ++ drop (width * count) other

-- Of a string of bytes that the reader accepts, of a store, and of the circles that are read into it.
pub record ReadLaw (bytes : List ℕ) (store : List Float) (circles : List Inscribed) : Type 0 where
  -- the record of these circles is the string, so no two strings are read as the same circles
  pub string : record_of circles ≡ bytes
  -- the writer gives the string for the store that was read into, with as many circles in use, where the output has room for it
  pub written : (room : ℕ) → length bytes ≤ room → write_record (store_after (read_record bytes (slots store)) store) (length circles) room ≡ Ok bytes

-- Of the record that is written of `count` circles in use of a store.
pub record LengthLaw (ns : List Float) (count : ℕ) (bytes : List ℕ) : Type 0 where
  -- it has two bytes, two for each circle, and eight for each bit that stands in its maps
  pub counted : length bytes ≡ 2 + 2 * count + 8 * standing_bits (circles_of ns count)
  -- it has no more bytes than the longest record
  pub longest : length bytes ≤ most_record
