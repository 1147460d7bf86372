-- `Asked::ask_block` meets its contract: the state of a word whose front is least is the least state of the block. Assumes nothing.
use Prim.Native.Nat.{◌%◌, ◌^◌}
use mathlib.Core.Path.{◌≡◌}
use native.Mathlib.Nat.{mod-lt}
use borrow.Author.Rules.{rules}
use lib.Pow.{pow_pos}
use Rattle.question.proofs.Blocks.{block_inside, block_sound, block_few, block_asked, on_state}
use Rattle.question.proofs.engine.Asked.ask_block.Goals as goal

pub least-requires : goal.least-requires
least-requires c =
    rw (c.beyond.ensures, c.beyond-2.ensures, block_inside c.requires) record {
      valid = block_sound c.args.at c.args.k (c.args.later % 2 ^ 32) c.args.free.w c.requires (mod-lt c.args.later (pow_pos 32));
      few = block_few c.args.at c.args.k (c.args.later % 2 ^ 32) c.args.free.w c.requires;
    }

pub returns : goal.returns
returns c =
    let e : c.map.result ≡ on_state c.least.result = search rules in
    rw e
    (block_asked _ _ _ _ _ c.requires c.least.result (rw (c.beyond.ensures, c.beyond-2.ensures, block_inside c.requires) at c.least.ensures))
