-- What is put into the output: the entries of the lines that end in a part of a chunk, with the state behind it.
use Rattle.std.specs.Prelude.{◌≡◌, List, [], ℕ, ◌+◌, ◌<◌, ◌≤◌, length, take, drop}
use Rattle.figures.specs.Written.{stored}
use Rattle.chunks.specs.Feeding.{holding, after, put, part}

-- a text stands at the front of the output, and the rest is as it was
pub record Fronts (t out outs : List ℕ) (n : ℕ) : Type 0 where
  pub fits : n ≤ length outs
  pub front : take n outs ≡ t
  pub rest : drop n outs ≡ drop n out

-- lines that lie whole in a chunk, from a place up to `next`: their entries are put from the place `at` of the output on, up to m; so many lines are refused
-- then, `total`, those before counted
pub record Runs (chunk : List ℕ) (from number refused : ℕ) (out : List ℕ) (at next line total n : ℕ) (outs : List ℕ) (m : ℕ) : Type 0 where
  pub past : from ≤ next
  pub inside : next ≤ length chunk
  pub grows : number ≤ line
  pub count : line + from ≤ number + next
  pub none_held : n ≡ 0
  pub leaves : after (holding number refused []) (part from next chunk) ≡ holding line total []
  pub puts : outs ≡ stored out at (put (holding number refused []) (part from next chunk))
  pub ends : m ≡ at + length (put (holding number refused []) (part from next chunk))
  pub fits : m ≤ length out
  pub long : length outs ≡ length out

-- a chunk is taken in from a place up to `next`: the state behind that part of it, and what is put out for it; what was held stays where it is
pub record Feeds (chunk : List ℕ) (from number refused : ℕ) (hold : List ℕ) (held : ℕ) (out : List ℕ) (next line total : ℕ) (holds : List ℕ) (n : ℕ) (outs : List ℕ) (m : ℕ) : Type 0 where
  pub inside : next ≤ length chunk
  pub goes : from < length chunk → from < next
  pub grows : number ≤ line
  pub count : line + from ≤ number + next
  pub stays : take held holds ≡ take held hold
  pub leaves : after (holding number refused (take held hold)) (part from next chunk) ≡ holding line total (take n holds)
  pub puts : Fronts (put (holding number refused (take held hold)) (part from next chunk)) out outs m
