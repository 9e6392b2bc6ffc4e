-- `console_figures::asked::put_asked`: the two bytes, the argument and the `;` over the start of the buffer.
use Rattle.console_figures.proofs.AskedLaws.{put_whole}
use Rattle.console_figures.proofs.asked.put_asked.Goals as goal

pub returns : goal.returns
returns c =
    put_whole c.args.argument.now c.args.out.now c.requires c.copy_from_slice.ensures.after c.copy_from_slice-2.ensures.after
