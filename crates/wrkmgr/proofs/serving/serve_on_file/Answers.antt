use Rattle.wm_sqlkeep.proofs.Crosses.{OpenedKeeper-send, passing}
use Rattle.wrkmgr.proofs.serving.serve_on_file.Goals as goal

pub serve_over-requires-send-S-K : goal.serve_over-requires-send-S-K
serve_over-requires-send-S-K g c κs within = search (OpenedKeeper-send, passing) depth 40
