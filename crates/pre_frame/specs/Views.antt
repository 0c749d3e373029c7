-- What a view shows of a frame.
use Rattle.pre_frame.specs.FrameFields.{Fields}
use Rattle.pre_frame.specs.declared.reading.FrameView.{FrameView}

abbrev pub fields_of : FrameView → Fields
fields_of view = record {
  destination = view.destination.now;
  source = view.source.now;
  prio = view.prio;
  dei = view.dei;
  vid = view.vid;
  ether = view.ether;
  payload = view.payload.now;
  fcs = view.fcs.now;
}
