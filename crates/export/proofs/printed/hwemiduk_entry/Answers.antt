-- `export::printed::hwemiduk_entry` meets its contract: the entry fits into the local text, and is handed out from there.
use mathlib.Core.Path.{refl}
use Rattle.export.proofs.Fits.{put_text, fitted_so}
use borrow.Author.Rules.{rules}
use Rattle.export.proofs.printed.hwemiduk_entry.Goals as goal

pub put_entry-e-requires : goal.put_entry-e-requires
put_entry-e-requires c = (
  record { bytes_room = search rules; bytes_zero = refl; numbers_room = search rules; numbers_zero = refl },
  search rules,
)

pub returns : goal.returns
returns c = fitted_so (put_text c.put_entry-e.ensures.0.puts (search rules)) c.hand_out.ensures
