-- `clean` keeps the points and closes. Assumes nothing.
use Rattle.std.proofs.Common.{arith}
use Rattle.cleaning.proofs.Made.{close_room, closed-count, closed_made}
use Rattle.cleaning.proofs.checked.Uncleaned.clean.Goals as goal

pub close-held-requires : goal.close-held-requires
close-held-requires c = let s = c.args.self.now in rw c.keep_all-k.auto.out (close_room _ _ _ c.args.force_closed _ c.keep_all-k.ensures s.even s.least c.requires)

pub curve_held-requires-clause-least : goal.curve_held-requires-clause-least
curve_held-requires-clause-least c = let s = c.args.self.now in (closed-count _ _ _ _ _ c.keep_all-k.ensures s.even s.least c.requires _ c.close-held.ensures).0

pub curve_held-requires-clause-room : goal.curve_held-requires-clause-room
curve_held-requires-clause-room c = let s = c.args.self.now in
    omega (arith, closed-count _ _ _ _ _ c.keep_all-k.ensures s.even s.least c.requires _ c.close-held.ensures, c.keep_all-k.auto.out, c.close-held.auto.out)

pub returns : goal.returns
returns c = let s = c.args.self.now in closed_made _ _ _ _ _ c.keep_all-k.ensures s.even s.least c.requires _ c.close-held.ensures _ c.curve_held.ensures
